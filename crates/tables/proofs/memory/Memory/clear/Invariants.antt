use Rattle.objects.specs.Places.{no_pair}
use Rattle.rules.specs.Tables.{with_pair}
use Rattle.rules.specs.Walks.{each_below}
use Rattle.tables.specs.Serving.Memories.{Became}
use Rattle.tables.proofs.memory.Memory.clear.Given as goal

abbrev pub invariant-loop-o : goal.invariant-loop-o
invariant-loop-o l = Became l.fn.self l.self (each_below l.o (λ q t. with_pair l.fn.self.size t l.s q no_pair))
