-- What the loop of `step_start::begin_objects` keeps.
use Rattle.rules.specs.Walks.{each_below}
use Rattle.tables.specs.Serving.Memories.{Became}
use Rattle.step_start.specs.Serving.Beginnings.{begin_object}
use Rattle.step_start.proofs.begin_objects.Given as goal

abbrev pub invariant-loop-o : goal.invariant-loop-o
invariant-loop-o l = Became l.fn.memory l.memory (each_below l.o (begin_object l.first.0 l.given))
