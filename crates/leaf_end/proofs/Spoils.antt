-- Spoiling the others that have called an object, beside stores elsewhere.
use Prim.Native.Nat.{ℕ, zero, suc}
use mathlib.Core.Bool.{Bool, true, false, not, ◌&&◌}
use mathlib.Core.Path.{◌≡◌, refl, ap, ◌∙◌}
use lib.Dec.{eqb}
use Rattle.counters.specs.Sizes.{Size}
use Rattle.objects.specs.declared.Object.{Object}
use Rattle.rules.specs.Tables.{State, live_at, pair_at, with_object}
use Rattle.rules.specs.Walks.{each_below}
use Rattle.rules.specs.Effects.{spoil_one}

-- storing the object and spoiling the others touch different columns
spoil_beside : (z : Size) (s o : ℕ) (object : Object) (r : ℕ) (t : State) → with_object (spoil_one z s o r t) o object ≡ spoil_one z s o r (with_object t o object)
spoil_beside z s o object r t = go (live_at t r && (not (eqb r s) && (pair_at z t r o).called)) refl
  where
    go : (b : Bool) → (live_at t r && (not (eqb r s) && (pair_at z t r o).called)) ≡ b
        → with_object (spoil_one z s o r t) o object ≡ spoil_one z s o r (with_object t o object)
    go true e = rw e
    go false e = rw e

pub spoils_beside : (z : Size) (s o : ℕ) (object : Object) (t : State) (k : ℕ)
    → with_object (each_below k (λ r u. spoil_one z s o r u) t) o object ≡ each_below k (λ r u. spoil_one z s o r u) (with_object t o object)
unfolding each_below
spoils_beside z s o object t zero = refl
spoils_beside z s o object t (suc k) =
    spoil_beside z s o object k (each_below k (λ r u. spoil_one z s o r u) t) ∙ ap (spoil_one z s o k) (spoils_beside z s o object t k)
