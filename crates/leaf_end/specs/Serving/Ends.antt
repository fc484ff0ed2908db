-- What an end makes of one object, and how many slots it asks whether they are spoiled.
use Rattle.std.specs.Prelude.{ℕ, Bool, ◌&&◌}
use Rattle.answers.specs.Order.{pick}
use Rattle.counters.specs.Sizes.{Size}
use Rattle.objects.specs.Places.{no_pair, settled, restores, restored}
use Rattle.objects.specs.declared.Object.{Object}
use Rattle.objects.specs.declared.Pair.{Pair}
use Rattle.rules.specs.Tables.{State, with_pair}
use Rattle.rules.specs.Effects.{end_turn}

-- R16, R17: the object behind an end
abbrev pub ended_object : ℕ → Bool → Pair → Object → Object
ended_object slots rollback pair object =
    pick pair.declared (settled slots pair (pick (rollback && restores pair) (restored pair object) object)) object

-- how many slots are asked whether R17 spoils them
abbrev pub slots_asked : ℕ → Bool → Pair → ℕ
slots_asked slots rollback pair = pick (rollback && restores pair) slots 0

-- what an end does on one object, and the slot's pair on it zero
abbrev pub end_cleared : Size → Bool → ℕ → ℕ → State → State
end_cleared z rollback s o t = with_pair z (end_turn z rollback s o t) s o no_pair
