-- How an object and a slot of fresh tables begin.
use Rattle.std.specs.Prelude.{ℕ, false, List, get_or}
use Rattle.counters.specs.Sizes.{Size}
use Rattle.rules.specs.Effects.{clear_slot}
use Rattle.rules.specs.Tables.{State, with_object, with_live, fresh_object}

-- its word is the one given, and all three versions are the first
abbrev pub begin_object : ℕ → List ℕ → ℕ → State → State
begin_object first given o t = with_object t o (fresh_object first (get_or given o 0))

-- not live, and all pairs zero
abbrev pub begin_slot : Size → ℕ → State → State
begin_slot z s t = with_live (clear_slot z s t) s false
