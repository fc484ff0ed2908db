-- The rules' tables (R4) that three lists stand for.
use Rattle.std.specs.Prelude.{ℕ, zero, suc, ◌+◌, ◌*◌, Bool, false, List, [], ◌∷◌, get_or}
use Rattle.counters.specs.Sizes.{Size}
use Rattle.objects.specs.declared.Object.{Object}
use Rattle.objects.specs.declared.Pair.{Pair}
use Rattle.rules.specs.Tables.{State}
use Rattle.tables.specs.Places.{object_place, private_place, supremum_place, declared_place, called_place, spoiled_place}

-- the list of what a function says of every number below a bound
unfoldable pub tabulate : {A : Type 0} → ℕ → (ℕ → A) → List A
tabulate zero f = []
tabulate (suc k) f = f zero ∷ tabulate k (λ i. f (suc i))

-- what stands at a place
abbrev pub cell : List ℕ → ℕ → ℕ
cell l i = get_or l i 0

abbrev pub mark : List Bool → ℕ → Bool
mark k i = get_or k i false

abbrev pub object_from : List ℕ → ℕ → Object
object_from w o =
    record {
      word = cell w (object_place o);
      global = record { 0 = cell w (object_place o + 1) };
      local = record { 0 = cell w (object_place o + 2) };
      terminal = record { 0 = cell w (object_place o + 3) };
    }

abbrev pub pair_from : Size → List ℕ → List ℕ → List Bool → ℕ → Pair
pair_from z w b k i =
    record {
      declared = mark k (declared_place z i);
      supremum = cell b (supremum_place i);
      private = record { 0 = cell w (private_place z i) };
      count = record { 0 = cell b (supremum_place i + 1) };
      called = mark k (called_place z i);
      spoiled = mark k (spoiled_place z i);
      saved = cell w (private_place z i + 1);
    }

-- R4: the tables of the rules
abbrev pub objects_of : Size → List ℕ → List Object
objects_of z w = tabulate z.objects (λ o. object_from w o)

abbrev pub live_of : Size → List Bool → List Bool
live_of z k = tabulate z.slots (λ s. mark k s)

abbrev pub pairs_of : Size → List ℕ → List ℕ → List Bool → List Pair
pairs_of z w b k = tabulate (z.slots * z.objects) (λ i. pair_from z w b k i)

abbrev pub view : Size → List ℕ → List ℕ → List Bool → State
view z w b k = record { objects = objects_of z w; live = live_of z k; pairs = pairs_of z w b k }
