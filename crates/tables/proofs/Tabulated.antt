-- A list that is made of a function: what stands at a place, and what a store there is.
use Prim.Native.Nat.{ℕ, zero, suc, ◌<◌}
use mathlib.Core.List.{List, ◌∷◌}
use mathlib.Core.Path.{◌≡◌, refl, sym, ap, ◌∙◌}
use native.Mathlib.Omega.{arith}
use lib.ListN.{length, get_or, set}
use Rattle.tables.specs.Views.{tabulate}

pub tab_get : {A : Type 0} (n : ℕ) (f : ℕ → A) (i : ℕ) (d : A) → i < n → get_or (tabulate n f) i d ≡ f i
unfolding tabulate
tab_get zero f i d below = absurd (omega arith)
tab_get (suc n) f zero d below = refl
tab_get (suc n) f (suc i) d below = tab_get n (λ j. f (suc j)) i d (omega arith)

pub tab_length : {A : Type 0} (n : ℕ) (f : ℕ → A) → length (tabulate n f) ≡ n
unfolding tabulate
tab_length zero f = refl
tab_length (suc n) f = ap suc (tab_length n (λ j. f (suc j)))

pub tab_alike : {A : Type 0} (n : ℕ) (f g : ℕ → A) → ((i : ℕ) → i < n → f i ≡ g i) → tabulate n f ≡ tabulate n g
unfolding tabulate
tab_alike zero f g alike = refl
tab_alike (suc n) f g alike =
    λ k. alike zero (omega arith) k ∷ tab_alike n (λ j. f (suc j)) (λ j. g (suc j)) (λ i below. alike (suc i) (omega arith)) k

-- where one place is told anew and no other
pub tab_stored : {A : Type 0} (n : ℕ) (f g : ℕ → A) (i : ℕ) (x : A) → i < n → g i ≡ x → ((j : ℕ) → j < n → (j ≡ i → ⊥) → g j ≡ f j)
    → tabulate n g ≡ set (tabulate n f) i x
unfolding tabulate
tab_stored zero f g i x below there other = absurd (omega arith)
tab_stored (suc n) f g zero x below there other =
    λ k. there k ∷ tab_alike n (λ j. g (suc j)) (λ j. f (suc j)) (λ j inside. other (suc j) (omega arith) (λ same. omega arith)) k
tab_stored (suc n) f g (suc i) x below there other =
    λ k.
    other zero (omega arith) (λ same. omega arith) k
    ∷ tab_stored n (λ j. f (suc j)) (λ j. g (suc j)) i x (omega arith) there
    (λ j inside apart. other (suc j) (omega arith) (λ same. apart (omega arith))) k

-- two that are equal lists tell alike
pub tab_same : {A : Type 0} (n : ℕ) (f g : ℕ → A) (d : A) → tabulate n f ≡ tabulate n g → (i : ℕ) → i < n → f i ≡ g i
tab_same n f g d e i below = sym (tab_get n f i d below) ∙ ap (λ (l : List _). get_or l i d) e ∙ tab_get n g i d below
