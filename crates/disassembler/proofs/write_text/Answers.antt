-- What was found decides as the contract's does; the text is written from 0 on.
use native.Mathlib.Omega.{arith}
use mathlib.Core.Path.{refl, ap}
use Rattle.std.proofs.Common.{rules, ◌≡◌, Err}
use Rattle.answers.specs.Outcomes.{decided}
use Rattle.answers.proofs.Entries.{is-refused}
use Rattle.ascii.proofs.Rooms.{in_turn, room_after}
use Rattle.disassembler.specs.Entries.{found_checked}
use Rattle.disassembler.proofs.Outcomes.{text-put}
use Rattle.disassembler.proofs.write_text.Goals as goal

pub returns-in_err-i : goal.returns-in_err-i
returns-in_err-i c =
    let gives : c.from_residual.result ≡ Err _ = search rules in
    rw gives (is-refused _ Err _ refl (ap found_checked c.in_err-i.was))

pub put_text-requires : goal.put_text-requires
put_text-requires c =
    let fits = rw c.in_ok-i.was at c.requires.fits in
    room_after _ c.put_all.ensures (omega arith)

pub returns : goal.returns
unfolding decided
returns c =
    let fits = rw c.in_ok-i.was at c.requires.fits in
    let wrote = in_turn c.put_all.ensures c.put_text.ensures in
    rw c.in_ok-i.was (text-put _ (omega (arith, fits)) (search rules))
