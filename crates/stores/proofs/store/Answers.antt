-- The N bytes from at are the low ones of v.
use Rattle.std.proofs.Common.{◌≡◌, ◌+◌, ◌-◌, append_assoc, arith}
use lib.Seq.{drop-drop}
use Rattle.octets.specs.Bytes.{store}
use Rattle.octets.proofs.Bytes.{low_bytes}
use Rattle.stores.proofs.store.Goals as goal

pub returns : goal.returns
unfolding store
returns g c =
    let args = c.args in
    let n : args.at + g.row.N - args.at ≡ g.row.N = omega arith in
    rw (n, c.copy_from_slice.ensures.after, c.to_le_bytes.ensures, low_bytes g.row.N args.v c.requires.at_most_eight) (simp (append_assoc, drop-drop))
