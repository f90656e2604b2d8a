-- A turn reads one register more.
use Rattle.std.proofs.Common.{◌≡◌, rules, arith, refl, sym, ◌∙◌, drop}
use lib.ListN.{length-set}
use lib.Seq.{take_all}
use Rattle.octets.proofs.Bytes.{load_one}
use Rattle.records.specs.Records.{of_words, state_of}
use Rattle.records.proofs.Records.{read_turn}
use Rattle.records.proofs.read_record.Goals as goal

pub loop-i-init : goal.loop-i-init
unfolding of_words
loop-i-init c = record { registers = search rules; read = refl }

pub loop-i-preserved : goal.loop-i-preserved
loop-i-preserved c =
    let l = c.loop-i in
    record {
      registers = simp length-set l.invariant.registers;
      read = read_turn c.args.part.now l.register-items l.i c.load.result (omega arith) l.invariant.read c.load.ensures.value;
    }

pub returns : goal.returns
unfolding state_of
returns c =
    let l = c.loop-i in
    let m = c.args.part.now in
    let i : l.i ≡ 31 = omega arith in
    let x : l.register-items ≡ of_words 31 (drop 4 m) = sym (take_all 31 l.register-items (omega arith)) ∙ (rw i at l.invariant.read) in
    rw (c.load-2.ensures.value, c.load-3.ensures.value, c.load-4.ensures.value, x, load_one 136 m (omega arith))
