-- `place::place_of` meets its contract: its tests are those of `placed`, in order.
use Rattle.std.proofs.Common.{sym, ◌∙◌, ◌+◌, ◌≤◌, arith}
use borrow.Author.Tests.{eq-eqb, ne_eqb, le-leb}
use Rattle.place.specs.Map.{placed}
use Rattle.place.proofs.Placed.{beyond_memory, is_word}
use Rattle.place.proofs.place_of.Goals as goal

pub returns-then-at-bytes-ne0 : goal.returns-then-at-bytes-ne0
unfolding placed
returns-then-at-bytes-ne0 c = rw (← c.bytes.ensures, ne_eqb _ 0 c.if-at-bytes-ne0.true)

pub returns-then-at-bytes : goal.returns-then-at-bytes
unfolding placed
returns-then-at-bytes c =
    let inside : c.args.address + c.bytes-2.result ≤ c.args.size = omega arith in
    rw (← c.bytes-2.ensures, le-leb _ _ inside, ← (c.bytes.ensures ∙ sym c.bytes-2.ensures), eq-eqb _ 0 c.if-at-bytes-ne0.false)

pub returns-then-eq-address : goal.returns-then-eq-address
returns-then-eq-address c =
    beyond_memory _ c.args.address c.args.size c.bytes-2.result _ _ (rw c.bytes.ensures at (eq-eqb _ 0 c.if-at-bytes-ne0.false)) c.bytes-2.ensures (omega arith) (c.eq.ensures ∙ is_word _) c.if-eq-address.true

pub returns : goal.returns
returns c =
    beyond_memory _ c.args.address c.args.size c.bytes-2.result _ _ (rw c.bytes.ensures at (eq-eqb _ 0 c.if-at-bytes-ne0.false)) c.bytes-2.ensures (omega arith) (c.eq.ensures ∙ is_word _) c.if-eq-address.false
