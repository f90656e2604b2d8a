-- `reader::first_line` meets its contract: a guess that reads the line is right, and another changes nothing.
use Rattle.std.proofs.Common.{◌≡◌, ℕ, Bool, cond, eqb, eq-eqb, ne_eqb, Ok, ap, sym, ◌∙◌}
use Rattle.reader.specs.Line.{read_by}
use Rattle.reader.proofs.Guessing.{guessed}
use Rattle.reader.proofs.first_line.Goals.{then-short, else-short}
use Rattle.reader.proofs.first_line.Goals as goal

pub returns-in-Ok : goal.returns-in-Ok
returns-in-Ok c =
    let p = c.prefix-short in
    let k = c.guess-operation in
    let begins : c.if-short.from ≡ cond (eqb p.result 2) 2 0 =
    elim c.if-short.branch [
      | then-short w ↦ w.from-is ∙ sym (ap (λ (t : Bool). cond t 2 0) (eq-eqb _ _ w.if-short.true))
      | else-short w ↦ w.from-is ∙ sym (ap (λ (t : Bool). cond t 2 0) (ne_eqb _ _ w.if-short.false))
    ] in
    let reads = sym c.in-Ok.is ∙ c.follow.ensures ∙ ap (λ (from : ℕ). read_by from c.args.text.now k.result) begins in
    ap Ok c.line.ensures ∙ guessed c.args.text.now p.result p.ensures k.result k.ensures _ _ reads
