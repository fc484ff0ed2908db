use Rattle.std.proofs.Common.{◌∙◌}
use Rattle.leaf_end.specs.Serving.Standings.{standing_with}
use Rattle.leaf_end.proofs.Standings.{stands_first, stands_on}
use Rattle.tables.specs.Serving.Memories.{tables_of}
use Rattle.step_end.proofs.look.Goals as goal

pub loop-o-init : goal.loop-o-init
loop-o-init c =
    let a = c.args in
    let m = a.memory.now in
    stands_first m.size (tables_of m) a.s c.of_none-standing.result c.of_none-standing.ensures

pub loop-o-preserved : goal.loop-o-preserved
loop-o-preserved c =
    let a = c.args in
    let m = a.memory.now in
    let o = c.loop-o.o in
    stands_on m.size (tables_of m) a.s o c.loop-o.standing c.add-standing.result c.loop-o-test.true
    (c.add-standing.ensures o ∙ (λ i. standing_with o (c.pair_at-pair.ensures i) (c.object_at.ensures i) c.loop-o.standing))
    c.loop-o.invariant
