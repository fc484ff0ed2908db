use Rattle.leaf_end.specs.Serving.Ends.{end_cleared}
use Rattle.rules.specs.Walks.{each_below}
use Rattle.tables.specs.Serving.Memories.{Became}
use Rattle.step_end.proofs.settle.Given as goal

abbrev pub invariant-loop-o : goal.invariant-loop-o
invariant-loop-o l = Became l.fn.memory l.memory (each_below l.o (λ q t. end_cleared l.fn.memory.size l.rollback l.s q t))
