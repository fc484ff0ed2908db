-- A loop over the memory that gives each number below a bound its turn.
use Prim.Native.Nat.{ℕ, ◌+◌}
use mathlib.Core.Path.{◌≡◌, refl, sym, ap, ◌∙◌}
use Rattle.rules.proofs.Walking.{each_zero, each_next}
use Rattle.rules.specs.Tables.{State}
use Rattle.rules.specs.Walks.{each_below}
use Rattle.tables.specs.declared.memory.Memory.{Memory}
use Rattle.tables.specs.Serving.Memories.{tables_of, Same, Became}

pub same_first : (m : Memory) → Same m m
same_first m = record { size = refl; words = refl; bytes = refl; marks = refl }

pub same_on : {m₀ m m₁ : Memory} → Same m₀ m → Same m m₁ → Same m₀ m₁
same_on before after =
    record {
      size = after.size ∙ before.size;
      words = after.words ∙ before.words;
      bytes = after.bytes ∙ before.bytes;
      marks = after.marks ∙ before.marks;
    }

pub became_first : (turn : ℕ → State → State) (m : Memory) → Became m m (each_below 0 turn)
became_first turn m = record { same = same_first m; tables = sym (each_zero turn (tables_of m)) }

pub became_then : {m₀ m m₁ : Memory} (f g : State → State) → Became m₀ m f → Became m m₁ g → Became m₀ m₁ (λ t. g (f t))
became_then f g first second = record { same = same_on first.same second.same; tables = second.tables ∙ ap g first.tables }

pub became_on : (turn : ℕ → State → State) {m₀ m m₁ : Memory} {n : ℕ} {change : State → State} → Became m₀ m (each_below n turn) → Became m m₁ change
    → ((t : State) → change t ≡ turn n t) → Became m₀ m₁ (each_below (n + 1) turn)
became_on turn {m₀} {m} {m₁} {n} walk step one =
    record {
      same = same_on walk.same step.same;
      tables = step.tables ∙ one (tables_of m) ∙ ap (turn n) walk.tables ∙ sym (each_next turn (tables_of m₀) n);
    }
