use Rattle.tables.specs.Serving.Memories.{tables_of}
use Rattle.step_end.proofs.Entered.{Entering}
use Rattle.step_end.proofs.writing.entries.Given as goal

abbrev pub invariant-loop-o : goal.invariant-loop-o
invariant-loop-o l = Entering l.memory.size (tables_of l.memory) l.s l.o l.at l.initial.buf l.buf
