-- `step_start::begin_slots` meets its promise.
use Rattle.std.proofs.Common.{false}
use Rattle.rules.specs.Effects.{clear_slot}
use Rattle.rules.specs.Tables.{with_live}
use Rattle.tables.proofs.Memories.{became_first, became_then, became_on}
use Rattle.step_start.specs.Serving.Beginnings.{begin_slot}
use Rattle.step_start.proofs.begin_slots.Goals as goal

pub loop-s-init : goal.loop-s-init
loop-s-init c = became_first (begin_slot c.args.memory.now.size) c.args.memory.now

pub loop-s-preserved : goal.loop-s-preserved
loop-s-preserved c =
    let met = c.loop-s in
    became_on (begin_slot c.args.memory.now.size) met.invariant
    (became_then (clear_slot met.memory.size met.s) (λ t. with_live t met.s false) c.clear.ensures c.store_live.ensures)
    (λ t i. begin_slot (met.invariant.same.size i) met.s t)
