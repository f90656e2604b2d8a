-- The invariant: from here along the rest of the sample is the whole way along it.
use Rattle.std.proofs.Common.{◌+◌, Ok, get_or, drop, sym, ◌∙◌, arith, rules}
use Rattle.reader.proofs.Pieces.{over-number, over-byte}
use Rattle.reader.proofs.Following.{over-here, goes_on, stops}
use Rattle.reader.proofs.follow.Goals.{in-Some+in_ok-cursor-in-Some, in-None}
use Rattle.reader.proofs.follow.Goals as goal

pub returns : goal.returns
returns c =
    let l = c.loop-piece in
    let s = c.sample_line-piece-items in
    over-here c.args.operation l.piece-index l.cursor.at c.args.text.now l.cursor.fields s.result.now s.ensures (omega arith) ∙ l.invariant.1

pub returns-in_err-cursor-in-Some : goal.returns-in_err-cursor-in-Some
returns-in_err-cursor-in-Some c =
    let a = c.args in
    let l = c.loop-piece in
    let s = c.sample_line-piece-items in
    let x = l.cursor in
    let p = get_or s.result.now l.piece-index 0 in
    let on = over-number a.operation p x.at (drop x.at a.text.now) x.fields c.in-Some.field c.in-Some.ensures _ (sym c.in_err-cursor-in-Some.was ∙ c.over_field.ensures) in
    let stuck = stops a.operation a.from l.piece-index a.text.now x l.invariant s.result.now s.ensures (omega arith) _ on in
    search rules

pub returns-in-None-2 : goal.returns-in-None-2
returns-in-None-2 c =
    let a = c.args in
    let l = c.loop-piece in
    let s = c.sample_line-piece-items in
    let x = l.cursor in
    let p = get_or s.result.now l.piece-index 0 in
    let on = over-byte a.operation p x.at (drop x.at a.text.now) x.fields c.in-None.ensures _ (sym c.stands.ensures ∙ c.if-stands.false) in
    stops a.operation a.from l.piece-index a.text.now x l.invariant s.result.now s.ensures (omega arith) _ on

pub loop-piece-preserved : goal.loop-piece-preserved
loop-piece-preserved c =
    let a = c.args in
    let l = c.loop-piece in
    let s = c.sample_line-piece-items in
    let x = l.cursor in
    let p = get_or s.result.now l.piece-index 0 in
    let on = goes_on a.operation a.from l.piece-index a.text.now x l.invariant s.result.now s.ensures (omega arith) in
    elim c.match-of_sample.branch [
      | in-Some+in_ok-cursor-in-Some w ↦
          let d = w.in_ok-cursor-in-Some.cursor in
          let h = over-number a.operation p x.at (drop x.at a.text.now) x.fields w.in-Some.field w.in-Some.ensures (Ok d) (sym w.in_ok-cursor-in-Some.was ∙ w.over_field.ensures) in
          rw w.cursor-is (on d h)
      | in-None w ↦
          let h = over-byte a.operation p x.at (drop x.at a.text.now) x.fields w.in-None.ensures _ (sym w.stands.ensures ∙ w.if-stands.true) in
          rw w.cursor-is (on (record { at = x.at + 1; fields = x.fields }) h)
    ]
