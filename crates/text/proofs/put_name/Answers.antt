-- A sample line begins with its name, which is put byte by byte.
use native.Mathlib.Omega.{arith}
use Rattle.ascii.proofs.Rooms.{put_nothing}
use Rattle.text.specs.Samples.{sample_line}
use Rattle.text.proofs.Samples.{no_name, name_first, nothing-put, room-here, one-put, all-put, stops-here, stops-at_end}
use Rattle.text.proofs.put_name.Goals as goal

pub loop-byte-init : goal.loop-byte-init
loop-byte-init c = let o = c.args.operation in nothing-put (sample_line o) _ (rw (name_first o c.if-operation-lt48.true) c.requires)

pub put-requires : goal.put-requires
put-requires c =
    let l = c.loop-byte in
    let e = c.sample_line-byte-items.ensures in
    omega (arith, room-here _ _ l.byte-index _ l.invariant (rw e at c.loop-byte-test.true) (rw e at c.if-byte-le32.false))

pub loop-byte-preserved : goal.loop-byte-preserved
loop-byte-preserved c =
    let l = c.loop-byte in
    let e = c.sample_line-byte-items.ensures in
    one-put _ _ l.byte-index _ l.invariant (rw e at c.loop-byte-test.true) (rw e at c.if-byte-le32.false) (rw e at c.put.ensures)

pub returns-then-byte-le32 : goal.returns-then-byte-le32
returns-then-byte-le32 c =
    let l = c.loop-byte in
    let e = c.sample_line-byte-items.ensures in
    let o = c.args.operation in
    let put = all-put _ _ l.byte-index _ l.invariant (stops-here _ l.byte-index (rw e at c.loop-byte-test.true) (rw e at c.if-byte-le32.true)) in
    rw (name_first o c.if-operation-lt48.true) at put

pub returns-after-loop-byte : goal.returns-after-loop-byte
returns-after-loop-byte c =
    let l = c.loop-byte in
    let e = c.sample_line-byte-items.ensures in
    let o = c.args.operation in
    let put = all-put _ _ l.byte-index _ l.invariant (stops-at_end _ l.byte-index (rw e at c.loop-byte-test.false)) in
    rw (name_first o c.if-operation-lt48.true) at put

pub returns-else-operation-lt48 : goal.returns-else-operation-lt48
returns-else-operation-lt48 c =
    rw (no_name c.args.operation c.if-operation-lt48.false) (put_nothing _)
