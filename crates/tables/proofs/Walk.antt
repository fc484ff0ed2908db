-- A loop that gives each number below a bound its turn in the lists gives it in the tables that they stand for.
use Prim.Native.Nat.{ℕ, ◌+◌, ◌≤◌, ◌<◌}
use mathlib.Core.Bool.{Bool}
use mathlib.Core.List.{List}
use mathlib.Core.Path.{◌≡◌, sym, ap, ◌∙◌}
use native.Mathlib.Omega.{arith}
use Rattle.counters.specs.Sizes.{Size}
use Rattle.rules.proofs.Walking.{each_zero, each_next}
use Rattle.rules.specs.Tables.{State}
use Rattle.rules.specs.Walks.{each_below}
use Rattle.tables.specs.Places.{Fits}
use Rattle.tables.specs.Views.{view}
use Rattle.tables.specs.Serving.Changes.{Become}

-- what the loop keeps: the numbers that it has passed had their turn
pub record Walk (z : Size) (turn : ℕ → State → State) (limit : ℕ) (w₀ b₀ : List ℕ) (k₀ : List Bool) (at : ℕ) (w b : List ℕ) (k : List Bool) : Type 0 where
  pub reached : at ≤ limit
  pub become : Become z w₀ b₀ k₀ w b k (each_below at turn)

module _ {z : Size} {turn : ℕ → State → State} {limit : ℕ} {w₀ b₀ : List ℕ} {k₀ : List Bool} where
  pub walk_first : Fits z w₀ b₀ k₀ → Walk z turn limit w₀ b₀ k₀ 0 w₀ b₀ k₀
  walk_first fits = record { reached = omega arith; become = (fits, sym (each_zero turn (view z w₀ b₀ k₀))) }

  module _ {at : ℕ} {w b : List ℕ} {k : List Bool} (walk : Walk z turn limit w₀ b₀ k₀ at w b k) where
    pub walk_on : (w₁ b₁ : List ℕ) (k₁ : List Bool) (t₁ : State) → at < limit → Fits z w₁ b₁ k₁ → view z w₁ b₁ k₁ ≡ t₁ → t₁ ≡ turn at (view z w b k)
        → Walk z turn limit w₀ b₀ k₀ (at + 1) w₁ b₁ k₁
    walk_on w₁ b₁ k₁ t₁ more fits is-t₁ one =
        record {
          reached = omega arith;
          become = (fits, is-t₁ ∙ one ∙ ap (turn at) walk.become.1 ∙ sym (each_next turn (view z w₀ b₀ k₀) at));
        }

    pub walk_done : limit ≤ at → Become z w₀ b₀ k₀ w b k (each_below limit turn)
    walk_done all =
        let last : at ≡ limit = omega (arith, walk.reached) in
        (walk.become.0, walk.become.1 ∙ ap (λ (n : ℕ). each_below n turn (view z w₀ b₀ k₀)) last)
