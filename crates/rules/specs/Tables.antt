-- R4: of each object a word and three versions, of each slot its live mark, of each slot and object a pair. R7: the fresh tables.
use Rattle.std.specs.Prelude.{ℕ, ◌+◌, ◌*◌, Bool, false, List, map, get_or, set, replicate}
use Rattle.counters.specs.Sizes.{Size}
use Rattle.objects.specs.Places.{no_pair}
use Rattle.objects.specs.declared.Object.{Object}
use Rattle.objects.specs.declared.Pair.{Pair}

-- the pair of slot s and object o stands at s * objects + o
pub record State : Type 0 where
  pub objects : List Object
  pub live : List Bool
  pub pairs : List Pair

-- R6: past the end everything is zero
abbrev pub no_object : Object
no_object = record { word = 0; global = record { 0 = 0 }; local = record { 0 = 0 }; terminal = record { 0 = 0 } }

abbrev pub object_at : State → ℕ → Object
object_at t o = get_or t.objects o no_object

abbrev pub live_at : State → ℕ → Bool
live_at t s = get_or t.live s false

abbrev pub pair_at : Size → State → ℕ → ℕ → Pair
pair_at z t s o = get_or t.pairs (s * z.objects + o) no_pair

-- the tables with one place changed
abbrev pub with_object : State → ℕ → Object → State
with_object t o object = record { objects = set t.objects o object; live = t.live; pairs = t.pairs }

abbrev pub with_live : State → ℕ → Bool → State
with_live t s live = record { objects = t.objects; live = set t.live s live; pairs = t.pairs }

abbrev pub with_pair : Size → State → ℕ → ℕ → Pair → State
with_pair z t s o pair = record { objects = t.objects; live = t.live; pairs = set t.pairs (s * z.objects + o) pair }

-- R7: every version is the first, no slot is live, and every pair is zero
abbrev pub fresh_object : ℕ → ℕ → Object
fresh_object first word = record { word = word; global = record { 0 = first }; local = record { 0 = first }; terminal = record { 0 = first } }

abbrev pub fresh_tables : Size → List ℕ → ℕ → State
fresh_tables z words first =
    record { objects = map (fresh_object first) words; live = replicate z.slots false; pairs = replicate (z.slots * z.objects) no_pair }
