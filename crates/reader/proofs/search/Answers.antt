-- `reader::search` meets its contract: a line without c:, no c: in front, a line with it, or neither.
use Rattle.std.proofs.Common.{max, Ok, Err, rules}
use mathlib.Core.Path.{refl, ◌≡◌, sym, ap, ◌∙◌}
use native.Mathlib.Omega.{arith}
use Rattle.std.proofs.lemmas.Result.{err_from_is_err_and}
use Rattle.reader.specs.Line.{Unreadable, furthest}
use Rattle.reader.proofs.Choosing.{larger, long-first, no_colon, colon-first, prefix_most}
use Rattle.reader.proofs.search.Goals as goal

pub returns-in_default : goal.returns-in_default
returns-in_default c =
    long-first c.args.text.now c.among-plain.result c.among-plain.ensures c.in_default.field-0 c.in_default.is

pub returns-then-colon-lt2 : goal.returns-then-colon-lt2
returns-then-colon-lt2 c =
    let s = c.args.text.now in
    let n = c.prefix-colon in
    no_colon s c.in-Err.stuck (sym c.in-Err.is ∙ c.among-plain.ensures) n.result n.ensures (omega arith) c.max.result c.max.ensures

pub returns : goal.returns
returns c =
    let s = c.args.text.now in
    let n = c.prefix-colon in
    let m = prefix_most s in
    let two : n.result ≡ 2 = omega (arith, n.ensures) in
    let w = colon-first s c.in-Err.stuck (sym c.in-Err.is ∙ c.among-plain.ensures) n.result n.ensures two c.among.result c.among.ensures in
    let cases = c.map_err.ensures.cases in
    let further : c.map_err.result ≡ furthest (Unreadable c.in-Err.stuck) c.among.result =
    elim c.among.result as (λ l. c.among.result ≡ l → c.map_err.result ≡ furthest (Unreadable c.in-Err.stuck) l) [
      | Ok r ↦ λ e. let h = rw e at cases in search rules
      | Err q ↦ λ e.
          let o = err_from_is_err_and c.map_err.result (rw e at cases) in
          let m : o.0 ≡ max q c.in-Err.stuck = search rules in
          o.1 ∙ ap Err (m ∙ larger c.in-Err.stuck q)
    ] refl in
    further ∙ w
