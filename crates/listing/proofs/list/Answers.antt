-- The invariant: the room has its length, and the page is what is written so far and a page from the next line on. What is left of the image falls.
use mathlib.Core.Path.{refl, ◌∙◌}
use mathlib.Core.Logic.{inl, inr}
use native.Mathlib.Omega.{arith}
use Rattle.std.proofs.Common.{rules}
use borrow.Author.Tests.{leb-true}
use Rattle.ascii.proofs.Rooms.{moved}
use Rattle.listing.proofs.Lines.{line_moves}
use Rattle.listing.proofs.Writing.{begins, goes_on, ends}
use Rattle.listing.proofs.list.Goals as goal
use Rattle.listing.proofs.list.Goals.{then-loop-next-test+else-out-ge-LINE, else-loop-next-test}

pub loop-next-init : goal.loop-next-init
loop-next-init c = (refl, refl, begins _ _ _)

pub loop-next-smaller : goal.loop-next-smaller
loop-next-smaller c = omega (arith, c.put_line-next.ensures.next_value, line_moves c.args.image.now c.loop-next.next (omega arith))

pub loop-next-preserved : goal.loop-next-preserved
loop-next-preserved c =
    let at = c.args in
    let v = c.put_line-next.ensures in
    let kept = moved v.wrote in (
      v.wrote.same_room ∙ c.loop-next.invariant.0,
      kept.1 ∙ c.loop-next.invariant.1,
      rw v.next_value (goes_on at.image.now at.from at.room.now (λ n. (c.type_inv.image n).fits) (omega arith) (omega (arith, leb-true)) v.wrote.wrote c.loop-next.invariant.2),
    )

pub returns : goal.returns
returns c =
    ends _ _ _ (search rules)
    (elim c.loop-next-test.branch [
      | then-loop-next-test+else-out-ge-LINE w ↦ inr (omega (arith, w.if-out-ge-LINE.false, c.loop-next.invariant.1))
      | else-loop-next-test w ↦ inl w.loop-next-test.false
    ])
    c.loop-next.invariant.2
