-- Each test of the code is one of the fetch, in the same order.
use mathlib.Core.Path.{sym, ◌∙◌}
use Prim.Native.Nat.{◌+◌, ◌%◌, ◌<◌}
use lib.ListN.{length}
use borrow.Author.Tests.{eq-eqb, le-leb, lt-leb}
use Rattle.fetch.specs.Fetching.{fetched}
use Rattle.fetch.proofs.Laws.{fetch_short, fetch_long}
use Rattle.fetch.proofs.fetch.Goals as goal

pub returns-then-at-mem : goal.returns-then-at-mem
unfolding fetched
returns-then-at-mem c = rw (lt-leb _ _ c.if-at-mem.true, c.new.ensures)

pub returns-then-half-eq31 : goal.returns-then-half-eq31
unfolding fetched
returns-then-half-eq31 c =
    let ones = eq-eqb (c.load-half.result % 32) 31 c.if-half-eq31.true in
    rw (le-leb _ _ c.if-at-mem.false, ← c.load-half.ensures.value, ones, c.new-illegal.ensures)

pub returns-in_default : goal.returns-in_default
unfolding fetched
returns-in_default c =
    rw (fetch_short c.args.pc c.args.mem.now c.if-at-mem.false c.load-half.ensures.value c.if-half-eq31.false c.if-half-ne3.true (sym c.in_default.is ∙ c.expand.ensures), c.new-illegal.ensures)

pub returns-then-half-ne3 : goal.returns-then-half-ne3
unfolding fetched
returns-then-half-ne3 c =
    rw (fetch_short c.args.pc c.args.mem.now c.if-at-mem.false c.load-half.ensures.value c.if-half-eq31.false c.if-half-ne3.true (sym c.in-Some.is ∙ c.expand.ensures))

pub returns-then-at-mem-2 : goal.returns-then-at-mem-2
unfolding fetched
returns-then-at-mem-2 c =
    let beyond : length c.args.mem.now < c.args.pc + 4 = c.if-at-mem-2.true in
    rw (fetch_long c.args.pc c.args.mem.now c.if-at-mem.false c.load-half.ensures.value c.if-half-eq31.false c.if-half-ne3.false, lt-leb _ _ beyond, c.new-then-at-mem-2.ensures, c.add.ensures)

pub returns-in_default-decode : goal.returns-in_default-decode
unfolding fetched
returns-in_default-decode c =
    rw (fetch_long c.args.pc c.args.mem.now c.if-at-mem.false c.load-half.ensures.value c.if-half-eq31.false c.if-half-ne3.false, le-leb _ _ c.if-at-mem-2.false, ← c.load.ensures.value, ← c.decode.ensures, c.in_default-decode.is, c.new-illegal.ensures)

pub returns : goal.returns
unfolding fetched
returns c =
    rw (fetch_long c.args.pc c.args.mem.now c.if-at-mem.false c.load-half.ensures.value c.if-half-eq31.false c.if-half-ne3.false, le-leb _ _ c.if-at-mem-2.false, ← c.load.ensures.value, ← c.decode.ensures, c.in-Some-decode.is)
