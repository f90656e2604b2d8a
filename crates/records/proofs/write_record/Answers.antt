-- A turn writes one register more; the three numbers that follow end the record.
use Rattle.std.proofs.Common.{rules, arith}
use Rattle.octets.specs.Bytes.{little_endian}
use Rattle.records.specs.Records.{record_of}
use Rattle.records.proofs.Records.{write_start, write_turn, write_done}
use Rattle.records.proofs.write_record.Goals as goal

pub loop-i-init : goal.loop-i-init
loop-i-init c = record {
  size = search rules;
  registers = search rules;
  written = write_start _ c.args.part.now _ (search rules) (rw (← c.from.ensures) c.store.ensures);
}

pub loop-i-preserved : goal.loop-i-preserved
loop-i-preserved c =
    let l = c.loop-i in
    let s = c.args.s in
    record {
      size = search rules;
      registers = l.invariant.registers;
      written = write_turn (little_endian 4 s.pc) s.x l.i l.part _ (omega arith) (omega arith) l.invariant.written (rw (← c.from-in-loop-i.ensures) c.store-in-loop-i.ensures);
    }

pub returns : goal.returns
unfolding record_of
returns c =
    let l = c.loop-i in
    let s = c.args.s in
    write_done (little_endian 4 s.pc) s.x s.count s.stop s.address l.i l.part _ _ _ l.invariant.registers (omega arith) l.invariant.size (search rules) l.invariant.written
    c.store-2.ensures (rw c.from-2.ensures at c.store-3.ensures) (rw c.from-3.ensures at c.store-4.ensures)
