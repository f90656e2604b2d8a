-- No digit, a number that is untidy or past 32 bits with its sign, one with a minus, one without.
use Rattle.std.proofs.Common.{ℕ, Some, ◌≡◌, ◌-◌, ◌+◌, ◌^◌, ◌≤◌, length, true, ap, ◌∙◌, arith}
use Rattle.numerals.proofs.Laws.{sign_within, digits-within}
use Rattle.numerals.proofs.Numbers.{num, fine, bad, small, negative, bare, value_pos}
use Rattle.numerals.proofs.read_number.Goals as goal

pub bounds-text-first : goal.bounds-text-first
bounds-text-first c =
    let a = c.args in
    let m = c.sign_length-sign in
    let d = c.read_digits-end in
    let begins : (a.from + m.result ≤ length a.text.now) × (m.result ≤ 1) = rw m.ensures (sign_within a.field a.from a.text.now c.requires) in
    omega (arith, digits-within a.text.now (a.from + m.result) d.result d.ensures begins.0)

pub returns-then-not-is_tidy-fits : goal.returns-then-not-is_tidy-fits
returns-then-not-is_tidy-fits c =
    let a = c.args in
    let m = c.sign_length-sign in
    let d = c.read_digits-end in
    bad a.field a.from a.text.now m.result d.result m.ensures d.ensures (λ z. omega arith) (rw c.is_tidy.ensures at c.if-not-is_tidy-fits.true)

pub returns-then-sign-eq1 : goal.returns-then-sign-eq1
returns-then-sign-eq1 c =
    let a = c.args in
    let m = c.sign_length-sign in
    let d = c.read_digits-end in
    let p : fine a.from a.text.now m.result d.result ≡ true = rw c.is_tidy.ensures at c.if-not-is_tidy-fits.false in
    let s = small a.field a.from a.text.now m.result d.result m.ensures d.ensures (λ z. omega arith) p in
    let v = value_pos a.field a.from a.text.now m.result d.result m.ensures d.ensures (λ z. omega arith) p (omega arith) in
    let w : c.wrapping_neg.result ≡ 2 ^ 32 - d.result.value = omega (arith, c.wrapping_neg.ensures, c.wrapping_neg.type_inv, s) in
    ap (λ (n : ℕ). num d.result.end (Some n)) w
    ∙ negative a.field a.from a.text.now m.result d.result m.ensures d.ensures (λ z. omega arith) p (omega arith)

pub returns-else-sign-eq1 : goal.returns-else-sign-eq1
returns-else-sign-eq1 c =
    let a = c.args in
    let m = c.sign_length-sign in
    let d = c.read_digits-end in
    let p : fine a.from a.text.now m.result d.result ≡ true = rw c.is_tidy.ensures at c.if-not-is_tidy-fits.false in
    bare a.field a.from a.text.now m.result d.result m.ensures d.ensures (λ z. omega arith) p (λ e. omega arith)
