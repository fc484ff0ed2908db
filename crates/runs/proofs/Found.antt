-- The live transaction of a slot, found in the history, and the history with it changed.
use Prim.Native.Nat.{ℕ, ◌+◌}
use mathlib.Core.Bool.{Bool, true, false}
use mathlib.Core.List.{[], ◌∷◌, ◌++◌, map-append}
use mathlib.Core.Path.{◌≡◌, refl, ap, ◌∙◌}
use native.Mathlib.Omega.{arith}
use lib.Dec.{eqb}
use borrow.Author.Tests.{eqb-true, eq-eqb}
use Rattle.answers.specs.Order.{pick}
use Rattle.runs.specs.Histories.{History, Transaction, is_live, lives_in, changed}
use Rattle.runs.specs.Companions.{count_live}
use Rattle.answers.proofs.Tests.{both_true}

pub record Found (s : ℕ) (history : History) : Type 0 where
  pub before : History
  pub own : Transaction
  pub behind : History
  pub all : history ≡ before ++ own ∷ behind
  pub live : is_live own.status ≡ true
  pub slot : own.slot ≡ s
  pub none_before : count_live s before ≡ 0
  pub none_behind : count_live s behind ≡ 0

found_behind : (s : ℕ) (x : Transaction) (xs : History) → lives_in s x ≡ false → Found s xs → Found s (x ∷ xs)
found_behind s x xs idle f =
    record {
      before = x ∷ f.before;
      own = f.own;
      behind = f.behind;
      all = ap (λ (l : History). x ∷ l) f.all;
      live = f.live;
      slot = f.slot;
      none_before = rw (idle, f.none_before);
      none_behind = f.none_behind;
    }

-- where the history has one, it is found
pub find : (s : ℕ) (history : History) → count_live s history ≡ 1 → Found s history
find s [] one = absurd (omega arith)
find s (x ∷ xs) one = by (lives_in s x) refl (find s xs)
  where
    by : (b : Bool) → lives_in s x ≡ b → (count_live s xs ≡ 1 → Found s xs) → Found s (x ∷ xs)
    by true e rest =
        let both : (is_live x.status ≡ true) × (eqb x.slot s ≡ true) = both_true (is_live x.status) (eqb x.slot s) e in
        let sum : 1 + count_live s xs ≡ 1 = rw e at one in
        record {
          before = [];
          own = x;
          behind = xs;
          all = refl;
          live = both.0;
          slot = eqb-true x.slot s both.1;
          none_before = refl;
          none_behind = omega arith;
        }
    by false e rest = let sum : 0 + count_live s xs ≡ 1 = rw e at one in found_behind s x xs e (rest (omega arith))

pub count_append : (s : ℕ) (a b : History) → count_live s (a ++ b) ≡ count_live s a + count_live s b
count_append s [] b = omega arith
count_append s (x ∷ a) b = omega (arith, count_append s a b)

-- a part of the history without a live transaction of the slot stays
pub changed_none : (s : ℕ) (change : Transaction → Transaction) (xs : History) → count_live s xs ≡ 0 → changed s change xs ≡ xs
changed_none s change [] none = refl
changed_none s change (x ∷ xs) none = by (lives_in s x) refl (changed_none s change xs)
  where
    by : (b : Bool) → lives_in s x ≡ b → (count_live s xs ≡ 0 → changed s change xs ≡ xs) → changed s change (x ∷ xs) ≡ x ∷ xs
    by true e rest = let sum : 1 + count_live s xs ≡ 0 = rw e at none in absurd (omega arith)
    by false e rest = let sum : 0 + count_live s xs ≡ 0 = rw e at none in rw e (ap (λ (l : History). x ∷ l) (rest (omega arith)))

module _ (s : ℕ) (history : History) (f : Found s history) where
  pub lives : lives_in s f.own ≡ true
  lives = rw (f.live, f.slot) (eq-eqb s s refl)

  -- the history with the transaction changed, and nothing else
  pub changed_found : (change : Transaction → Transaction) → changed s change history ≡ f.before ++ change f.own ∷ f.behind
  changed_found change =
      ap (changed s change) f.all
      ∙ map-append (λ x. pick (lives_in s x) (change x) x) f.before (f.own ∷ f.behind)
      ∙ rw (changed_none s change f.before f.none_before, changed_none s change f.behind f.none_behind, lives)
