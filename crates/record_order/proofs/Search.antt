-- What the walk of one list inside a walk of the other finds.
use Rattle.counters.specs.declared.Comparison.{Comparison}
use Rattle.std.specs.Prelude.{None, Option, Some}
use Prim.Native.Nat.{ℕ, ◌+◌, ◌≤◌}
use mathlib.Core.Bool.{Bool, true, false}
use mathlib.Core.List.{List, [], ◌∷◌}
use mathlib.Core.Logic.{◌⊎◌, inl, inr, ⊎_elim}
use mathlib.Core.Path.{◌≡◌, refl, sym, ◌∙◌}
use borrow.Author.Tests.{eqb-true, eqb-false}
use native.Mathlib.Omega.{arith}
use lib.Dec.{eqb}
use Rattle.counters.specs.Comparing.{compared}
use Rattle.record_layout.specs.Entries.{Entry, rising_from}
use Rattle.record_order.specs.CameFirst.{meet, meeting_of}
use Rattle.record_order.specs.CommonObject.{Lists, Common}
use Rattle.record_order.proofs.Listed.{behind_first}

-- the walk of B's list for an entry of A's hits where the list has the object
record Hit (e : Entry) (fs : List Entry) (otherwise : Option Comparison) : Type 0 where
  pub version : ℕ
  pub listed : Lists fs e.object version
  pub answer : meet e fs otherwise ≡ Some (compared e.version version)

-- and else leaves it to what is given
record Missed (e : Entry) (fs : List Entry) (otherwise : Option Comparison) : Type 0 where
  pub unlisted : (w : ℕ) → Lists fs e.object w → ⊥
  pub answer : meet e fs otherwise ≡ otherwise

hits_or_misses : (e : Entry) (fs : List Entry) (otherwise : Option Comparison) → Hit e fs otherwise ⊎ Missed e fs otherwise
hits_or_misses e [] otherwise = inr (record { unlisted = λ w listed. listed; answer = refl })
hits_or_misses e (f ∷ fs) otherwise = go (eqb e.object f.object) refl (hits_or_misses e fs otherwise)
  where
    go : (t : Bool) → eqb e.object f.object ≡ t → Hit e fs otherwise ⊎ Missed e fs otherwise
        → Hit e (f ∷ fs) otherwise ⊎ Missed e (f ∷ fs) otherwise
    go true same rest = inl (record { version = f.version; listed = inl (sym (eqb-true _ _ same), refl); answer = rw same })
    go false other (inl hit) = inl (record { version = hit.version; listed = inr hit.listed; answer = rw other hit.answer })
    go false other (inr missed) =
        inr (record {
          unlisted = λ w. ⊎_elim (λ here. eqb-false _ _ other (sym here.0)) (missed.unlisted w);
          answer = rw other missed.answer;
        })

-- the walk of A's list finds the first of its objects that both list: where the list rises, the smallest
pub record Found (es fs : List Entry) : Type 0 where
  pub object : ℕ
  pub version_a : ℕ
  pub version_b : ℕ
  pub common : Common es fs object version_a version_b
  pub first : (objects least : ℕ) → rising_from objects least es ≡ true → (other x y : ℕ) → Common es fs other x y → object ≤ other
  pub answer : meeting_of es fs ≡ Some (compared version_a version_b)

-- or there is none
pub record NoneFound (es fs : List Entry) : Type 0 where
  pub none : (object v w : ℕ) → Common es fs object v w → ⊥
  pub answer : meeting_of es fs ≡ None

-- where B does not list A's first object, what both list stands behind it
passed : (e : Entry) (es fs : List Entry) → ((w : ℕ) → Lists fs e.object w → ⊥)
    → (o v w : ℕ) → Common (e ∷ es) fs o v w → Common es fs o v w
passed e es fs unlisted o v w common =
    ⊎_elim (λ here. absurd (unlisted w (rw (← here.0) at common.in_b))) (λ later. record { in_a = later; in_b = common.in_b }) common.in_a

-- one or the other, whatever the lists
pub found_or_none : (es fs : List Entry) → Found es fs ⊎ NoneFound es fs
found_or_none [] fs = inr (record { none = λ object v w common. common.in_a; answer = refl })
found_or_none (e ∷ es) fs = go (hits_or_misses e fs (meeting_of es fs)) (found_or_none es fs)
  where
    go : Hit e fs (meeting_of es fs) ⊎ Missed e fs (meeting_of es fs) → Found es fs ⊎ NoneFound es fs → Found (e ∷ es) fs ⊎ NoneFound (e ∷ es) fs
    go (inl hit) rest =
        inl (record {
          object = e.object;
          version_a = e.version;
          version_b = hit.version;
          common = record { in_a = inl (refl, refl); in_b = hit.listed };
          first = λ objects least rises other x y common.
              ⊎_elim (λ here. omega arith) (λ later. omega (arith, (behind_first objects least e es rises).1 other x later)) common.in_a;
          answer = hit.answer;
        })
    go (inr missed) (inl found) =
        inl (record {
          object = found.object;
          version_a = found.version_a;
          version_b = found.version_b;
          common = record { in_a = inr found.common.in_a; in_b = found.common.in_b };
          first = λ objects least rises other x y common.
              found.first objects (e.object + 1) (behind_first objects least e es rises).0 other x y (passed e es fs missed.unlisted other x y common);
          answer = missed.answer ∙ found.answer;
        })
    go (inr missed) (inr none) =
        inr (record {
          none = λ o v w common. none.none o v w (passed e es fs missed.unlisted o v w common);
          answer = missed.answer ∙ none.answer;
        })
