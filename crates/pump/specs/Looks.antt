-- What a look shows of a slot's pair on an object: zeros where one of them is out of range.
use Rattle.std.specs.Prelude.{ℕ, Bool, ◌||◌, List, leb}
use Rattle.answers.specs.Order.{pick}
use Rattle.counters.specs.Sizes.{base}
use Rattle.objects.specs.Places.{no_pair}
use Rattle.objects.specs.declared.Pair.{Pair}
use Rattle.rules.specs.Tables.{pair_at}
use Rattle.pump.specs.Held.{held}

abbrev pub pair_seen : List ℕ → List ℕ → List Bool → ℕ → ℕ → Pair
pair_seen w b k slot number = pick (leb base.slots slot || leb base.objects number) no_pair (pair_at base (held w b k) slot number)
