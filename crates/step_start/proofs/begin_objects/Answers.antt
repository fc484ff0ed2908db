-- `step_start::begin_objects` meets its promise.
use Rattle.std.proofs.Common.{refl}
use Rattle.tables.proofs.Memories.{became_first, became_on}
use Rattle.step_start.specs.Serving.Beginnings.{begin_object}
use Rattle.step_start.proofs.begin_objects.Goals as goal

pub loop-o-init : goal.loop-o-init
loop-o-init c = became_first (begin_object c.args.first.0 c.args.given.now) c.args.memory.now

pub loop-o-preserved : goal.loop-o-preserved
loop-o-preserved c = became_on (begin_object c.args.first.0 c.args.given.now) c.loop-o.invariant c.store_object.ensures (λ t. refl)
