-- How the slot of an end stands: whether it is doomed, whether a terminal need is not met, and how many bytes its entries have.
use Rattle.std.specs.Prelude.{ℕ, ◌+◌, false, ◌||◌, length}
use Rattle.counters.specs.Sizes.{Size}
use Rattle.objects.specs.declared.Object.{Object}
use Rattle.objects.specs.declared.Pair.{Pair}
use Rattle.rules.specs.Tables.{State}
use Rattle.rules.specs.Refusing.{misses, doomed, unmet}
use Rattle.rules.specs.Effects.{entry_of, end_entries}
use Rattle.leaf_end.specs.declared.Standing.{Standing}

-- before the first object
abbrev pub standing_of_none : Standing
standing_of_none = record { doomed = false; unmet = false; bytes = 0 }

-- with one object more
abbrev pub standing_with : ℕ → Pair → Object → Standing → Standing
standing_with o pair object standing =
    record {
      doomed = standing.doomed || pair.spoiled;
      unmet = standing.unmet || misses pair object;
      bytes = standing.bytes + length (entry_of o pair);
    }

-- with all objects: R9, R10 and R27
abbrev pub standing_of : Size → State → ℕ → Standing
standing_of z t s = record { doomed = doomed z t s; unmet = unmet z t s; bytes = length (end_entries z s t) }
