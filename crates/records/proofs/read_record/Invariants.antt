-- The first i registers are those that the record says.
use Rattle.std.proofs.Common.{◌≡◌, length, take, drop}
use Rattle.records.specs.Records.{of_words}
use Rattle.records.proofs.read_record.Given as goal

abbrev pub invariant-loop-i : goal.invariant-loop-i
invariant-loop-i l = record {
  registers : length l.register-items ≡ 31;
  read : take l.i l.register-items ≡ of_words l.i (drop 4 l.part);
}
