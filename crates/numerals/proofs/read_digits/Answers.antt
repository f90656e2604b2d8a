-- The invariant: the digits from here on, after the value so far, are all of them.
use Rattle.std.proofs.Common.{ℕ, ◌+◌, drop, sym, ap, ◌∙◌, arith}
use Rattle.numerals.specs.Numbers.{digits_on, grown}
use Rattle.numerals.proofs.Laws.{items-long, item-is, digit-told, on_more, on_other, on_end}
use Rattle.numerals.proofs.read_digits.Goals as goal

pub returns-then-not-is_ascii_digit : goal.returns-then-not-is_ascii_digit
returns-then-not-is_ascii_digit c =
    let a = c.args in
    let l = c.loop-b in
    let long = items-long a.text.now a.from l.b-index c.requires in
    let digit = digit-told a.text.now a.from l.b-index c.requires l.end l.invariant.0 _ c.is_ascii_digit.ensures.value in
    on_other a.text.now l.end l.value (omega (arith, l.invariant.0)) (digit ∙ c.if-not-is_ascii_digit.true) ∙ l.invariant.1

pub loop-b-preserved : goal.loop-b-preserved
loop-b-preserved c =
    let a = c.args in
    let l = c.loop-b in
    let s = a.text.now in
    let long = items-long s a.from l.b-index c.requires in
    let digit = digit-told s a.from l.b-index c.requires l.end l.invariant.0 _ c.is_ascii_digit.ensures.value in
    let value = c.with_digit-value.ensures ∙ ap (grown l.value) (item-is s a.from l.b-index c.requires l.end l.invariant.0) in (
      omega (arith, l.invariant.0),
      ap (λ (v : ℕ). digits_on (l.end + 1) v (drop (l.end + 1) s)) value
          ∙ sym (on_more s l.end l.value (omega (arith, l.invariant.0)) (digit ∙ c.if-not-is_ascii_digit.false)) ∙ l.invariant.1,
    )

pub returns-after-loop-b : goal.returns-after-loop-b
returns-after-loop-b c =
    let a = c.args in
    let l = c.loop-b in
    on_end a.text.now l.end l.value (omega (arith, l.invariant.0, items-long a.text.now a.from l.b-index c.requires)) ∙ l.invariant.1
