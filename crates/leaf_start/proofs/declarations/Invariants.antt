-- The declarations that are still to come decide by the same rules as all of them.
use Rattle.std.proofs.Common.{◌≡◌}
use Rattle.answers.specs.Order.{decide, refuses, passes}
use Rattle.record_bytes.specs.ListsLeft.{declarations_left}
use Rattle.record_layout.specs.Declarations.{declarations_of}
use Rattle.rules.specs.Refusing.{declaration_rules}
use Rattle.leaf_start.proofs.declarations.Given as goal

abbrev pub invariant-loop-declaration : goal.invariant-loop-declaration
invariant-loop-declaration l =
    decide (declaration_rules l.size 0 (declarations_of l.list)) refuses passes
    ≡ decide (declaration_rules l.size l.least (declarations_left l.declaration-iterator)) refuses passes
