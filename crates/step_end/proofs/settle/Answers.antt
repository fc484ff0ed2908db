use Rattle.leaf_end.specs.Serving.Ends.{end_cleared}
use Rattle.tables.proofs.Memories.{became_first, became_on}
use Rattle.step_end.proofs.settle.Goals as goal

pub loop-o-init : goal.loop-o-init
loop-o-init c =
    let a = c.args in
    became_first (λ q t. end_cleared a.memory.now.size a.rollback a.s q t) a.memory.now

pub loop-o-preserved : goal.loop-o-preserved
loop-o-preserved c =
    let a = c.args in
    became_on (λ q t. end_cleared a.memory.now.size a.rollback a.s q t) c.loop-o.invariant c.settle_one.ensures
    (λ t i. end_cleared (c.loop-o.invariant.same.size i) a.rollback a.s c.loop-o.o t)
