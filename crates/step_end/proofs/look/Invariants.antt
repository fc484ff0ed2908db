use Rattle.leaf_end.proofs.Standings.{StandsSoFar}
use Rattle.tables.specs.Serving.Memories.{tables_of}
use Rattle.step_end.proofs.look.Given as goal

abbrev pub invariant-loop-o : goal.invariant-loop-o
invariant-loop-o l = StandsSoFar l.memory.size (tables_of l.memory) l.s l.o l.standing
