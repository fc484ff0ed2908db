-- What a rising list lists: nothing below its least object, and each object with one version.
use Prim.Native.Nat.{ℕ, ◌+◌, ◌≤◌, ◌<◌}
use mathlib.Core.Bool.{true, ◌&&◌}
use mathlib.Core.List.{List, [], ◌∷◌}
use mathlib.Core.Logic.{inl, inr}
use mathlib.Core.Path.{◌≡◌}
use borrow.Author.Tests.{leb-true}
use native.Mathlib.Omega.{arith}
use lib.Dec.{leb, ltb}
use Rattle.answers.proofs.Tests.{both_true}
use Rattle.record_layout.specs.Entries.{Entry, rising_from}
use Rattle.record_order.specs.CommonObject.{Lists}

module _ (objects : ℕ) where
  -- the first object is at least `least`, and the others rise behind it
  rising_first : (least : ℕ) (e : Entry) (es : List Entry) → rising_from objects least (e ∷ es) ≡ true
      → (least ≤ e.object) × (rising_from objects (e.object + 1) es ≡ true)
  rising_first least e es rises =
      let parts = both_true (leb least e.object && ltb e.object objects) (rising_from objects (e.object + 1) es) rises in
      (leb-true _ _ (both_true (leb least e.object) (ltb e.object objects) parts.0).0, parts.1)

  -- no object below the least is listed
  pub listed_from : (least : ℕ) (es : List Entry) → rising_from objects least es ≡ true → (o v : ℕ) → Lists es o v → least ≤ o
  listed_from least [] rises o v listed = absurd listed
  listed_from least (e ∷ es) rises o v (inl here) = omega (arith, rising_first least e es rises)
  listed_from least (e ∷ es) rises o v (inr later) =
      let first = rising_first least e es rises in
      omega (arith, listed_from (e.object + 1) es first.1 o v later)

  -- the objects behind the first are above it, and rise
  pub behind_first : (least : ℕ) (e : Entry) (es : List Entry) → rising_from objects least (e ∷ es) ≡ true
      → (rising_from objects (e.object + 1) es ≡ true) × ((o v : ℕ) → Lists es o v → e.object < o)
  behind_first least e es rises =
      let rest = (rising_first least e es rises).1 in
      (rest, λ o v later. omega (arith, listed_from (e.object + 1) es rest o v later))

  -- an object is listed with one version
  pub one_version : (least : ℕ) (es : List Entry) → rising_from objects least es ≡ true → (o v w : ℕ) → Lists es o v → Lists es o w → v ≡ w
  one_version least [] rises o v w listed again = absurd listed
  one_version least (e ∷ es) rises o v w (inl here) (inl again) = cc
  one_version least (e ∷ es) rises o v w (inl here) (inr again) = absurd (omega (arith, (behind_first least e es rises).1 o w again))
  one_version least (e ∷ es) rises o v w (inr later) (inl again) = absurd (omega (arith, (behind_first least e es rises).1 o v later))
  one_version least (e ∷ es) rises o v w (inr later) (inr again) = one_version (e.object + 1) es (behind_first least e es rises).0 o v w later again
