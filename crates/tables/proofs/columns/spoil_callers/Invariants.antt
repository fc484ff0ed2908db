use Rattle.rules.specs.Walks.{each_below}
use Rattle.tables.specs.Serving.Changes.{spoil_caller, MarksBecome}
use Rattle.tables.proofs.columns.spoil_callers.Given as goal

abbrev pub invariant-loop-r : goal.invariant-loop-r
invariant-loop-r l = MarksBecome l.size l.fn.marks l.marks (each_below l.r (λ s t. spoil_caller l.size l.o s t))
