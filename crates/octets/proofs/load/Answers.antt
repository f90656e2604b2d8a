-- The eight bytes are the N from at, and zeros.
use Rattle.std.proofs.Common.{◌∙◌}
use Rattle.octets.proofs.Bytes.{load_padded, loaded_lt}
use Rattle.octets.proofs.load.Goals as goal

pub returns-clause-value : goal.returns-clause-value
returns-clause-value g c =
    c.from_le_bytes.ensures ∙ load_padded g.row.N c.args.at c.args.m.now _ c.requires.in_bounds c.requires.at_most_eight c.copy_from_slice.ensures.after

pub returns-clause-fits : goal.returns-clause-fits
returns-clause-fits g c =
    rw (
      c.from_le_bytes.ensures,
      load_padded g.row.N c.args.at c.args.m.now _ c.requires.in_bounds c.requires.at_most_eight c.copy_from_slice.ensures.after,
    )
    (loaded_lt g.row.N c.args.at c.args.m.now (λ k. (c.type_inv.m k).fits))
