use Rattle.std.proofs.Common.{arith}
use Rattle.tables.specs.Serving.Memories.{tables_of}
use Rattle.step_end.proofs.Entered.{enters_first, next_inside, enters_on}
use Rattle.step_end.proofs.writing.entries.Goals as goal

pub loop-o-init : goal.loop-o-init
loop-o-init c =
    let a = c.args in
    let m = a.memory.now in
    enters_first m.size (tables_of m) a.s a.buf.now c.requires.marks_in_bounds

pub entry-at-requires : goal.entry-at-requires
entry-at-requires c =
    let a = c.args in
    let m = a.memory.now in (
      omega arith,
      omega arith,
      next_inside m.size (tables_of m) a.s c.loop-o.o c.loop-o.at a.buf.now c.loop-o.buf
          c.loop-o-test.true c.loop-o.invariant c.pair_at.result c.pair_at.ensures,
    )

pub loop-o-preserved : goal.loop-o-preserved
loop-o-preserved c =
    let a = c.args in
    let m = a.memory.now in
    enters_on m.size (tables_of m) a.s c.loop-o.o c.loop-o.at a.buf.now c.loop-o.buf
    c.loop-o-test.true c.loop-o.invariant c.pair_at.result c.entry-at.result _ c.pair_at.ensures c.entry-at.ensures.0 c.entry-at.ensures.1
