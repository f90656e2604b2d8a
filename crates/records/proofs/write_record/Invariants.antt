-- The first 4 + 4 * i bytes are pc and the first i registers.
use Rattle.std.proofs.Common.{◌≡◌, ◌+◌, ◌*◌, ◌++◌, length, take}
use Rattle.octets.specs.Bytes.{little_endian}
use Rattle.records.specs.Records.{words}
use Rattle.records.proofs.write_record.Given as goal

abbrev pub invariant-loop-i : goal.invariant-loop-i
invariant-loop-i l = record {
  size : length l.part ≡ 144;
  registers : length l.x-items ≡ 31;
  written : take (4 + 4 * l.i) l.part ≡ little_endian 4 l.fn.s.pc ++ words (take l.i l.x-items);
}
