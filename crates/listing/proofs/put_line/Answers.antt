-- The line is `too long`, or its front, what is shown and a newline, one after another. What is shown lies within the image, and its text fits.
use Rattle.std.proofs.Common.{◌+◌, ◌*◌, ◌≤◌, length, arith}
use Rattle.ascii.proofs.Rooms.{in_turn, moved}
use Rattle.listing.specs.Listing.{size_of, shown_text, line_of}
use Rattle.listing.proofs.Lines.{shown-within, shown-fits, front_length, line-none, line_some}
use Rattle.listing.proofs.put_line.Goals as goal

pub returns-then-image-gt-IMAGE-clause-wrote : goal.returns-then-image-gt-IMAGE-clause-wrote
returns-then-image-gt-IMAGE-clause-wrote c = rw (line-none _ _ c.if-image-gt-IMAGE.true) c.put_all.ensures

pub returns-then-image-gt-IMAGE-clause-next_value : goal.returns-then-image-gt-IMAGE-clause-next_value
returns-then-image-gt-IMAGE-clause-next_value c = rw (line-none _ _ c.if-image-gt-IMAGE.true)

pub bits-requires : goal.bits-requires
bits-requires c =
    rw c.shown_at-shown.ensures (shown-within c.args.image.now c.args.at (λ n. (c.type_inv.image n).fits) c.requires.at_in_bounds)

pub put_front-requires : goal.put_front-requires
put_front-requires c =
    let fits : 2 * size_of c.shown_at-shown.result + length (shown_text c.shown_at-shown.result) ≤ 27 =
    rw c.shown_at-shown.ensures (shown-fits c.args.image.now c.args.at (λ n. (c.type_inv.image n).fits)) in
    omega (arith, fits, c.requires.has_room, c.size-size.ensures, front_length c.args.at (2 * c.size-size.result) c.bits.result)

pub put-requires : goal.put-requires
put-requires c =
    let fits : 2 * size_of c.shown_at-shown.result + length (shown_text c.shown_at-shown.result) ≤ 27 =
    rw c.shown_at-shown.ensures (shown-fits c.args.image.now c.args.at (λ n. (c.type_inv.image n).fits)) in
    omega (arith, fits, front_length c.args.at (2 * c.size-size.result) c.bits.result, moved c.put_front.ensures)

pub put-requires-2 : goal.put-requires-2
put-requires-2 c =
    let fits : 2 * size_of c.shown_at-shown.result + length (shown_text c.shown_at-shown.result) ≤ 27 =
    rw c.shown_at-shown.ensures (shown-fits c.args.image.now c.args.at (λ n. (c.type_inv.image n).fits)) in
    omega (arith, fits, front_length c.args.at (2 * c.size-size.result) c.bits.result, moved c.put_front.ensures, moved c.put.ensures)

pub returns-clause-wrote : goal.returns-clause-wrote
unfolding line_of
returns-clause-wrote c =
    rw (line_some _ _ c.if-image-gt-IMAGE.false, ← c.shown_at-shown.ensures, ← c.bits.ensures, ← c.size-size.ensures)
    (in_turn (in_turn c.put_front.ensures c.put.ensures) c.put-2.ensures)

pub returns-clause-next_value : goal.returns-clause-next_value
unfolding line_of
returns-clause-next_value c = rw (line_some _ _ c.if-image-gt-IMAGE.false, ← c.shown_at-shown.ensures, ← c.size-size.ensures)
