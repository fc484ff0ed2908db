-- The declarations that are still to come are of objects in range, and make of the tables as they are what all make of those at first.
use Rattle.std.proofs.Common.{◌≡◌}
use Rattle.leaf_start.specs.Serving.Listed.{ListedBelow}
use Rattle.record_bytes.specs.ListsLeft.{declarations_left}
use Rattle.record_layout.specs.Declarations.{declarations_of}
use Rattle.rules.specs.Effects.{declare_all}
use Rattle.tables.specs.Serving.Memories.{tables_of, Same}
use Rattle.step_start.proofs.declare_all.Given as goal

abbrev pub invariant-loop-declaration : goal.invariant-loop-declaration
invariant-loop-declaration l = record {
  same : Same l.fn.memory l.memory;
  within : ListedBelow l.fn.memory.size.objects (declarations_left l.declaration-iterator);
  declared :
      declare_all l.fn.memory.size l.s (declarations_of l.list) (tables_of l.fn.memory)
      ≡ declare_all l.fn.memory.size l.s (declarations_left l.declaration-iterator) (tables_of l.memory);
}
