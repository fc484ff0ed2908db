-- What the loop of `step_start::begin_slots` keeps.
use Rattle.rules.specs.Walks.{each_below}
use Rattle.tables.specs.Serving.Memories.{Became}
use Rattle.step_start.specs.Serving.Beginnings.{begin_slot}
use Rattle.step_start.proofs.begin_slots.Given as goal

abbrev pub invariant-loop-s : goal.invariant-loop-s
invariant-loop-s l = Became l.fn.memory l.memory (each_below l.s (begin_slot l.fn.memory.size))
