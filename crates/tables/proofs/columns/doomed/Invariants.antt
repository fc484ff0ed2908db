use Rattle.std.proofs.Common.{◌≡◌, ◌+◌}
use Rattle.rules.specs.Walks.{any_below}
use Rattle.tables.specs.Views.{mark}
use Rattle.tables.proofs.columns.doomed.Given as goal

abbrev pub invariant-loop-o : goal.invariant-loop-o
invariant-loop-o l = l.found ≡ any_below l.o (λ j. mark l.marks (l.from + j))
