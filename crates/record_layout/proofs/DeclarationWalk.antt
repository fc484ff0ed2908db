-- The declarations of a list of bytes, one after the other: what a walk sees, over the declarations or in steps of two bytes.
use Prim.Native.Nat.{ℕ, ◌+◌, ◌-◌, ◌%◌, ◌≤◌, ◌<◌}
use mathlib.Core.List.{List, [], ◌∷◌}
use mathlib.Core.Logic.{◌≢◌}
use mathlib.Core.Path.{◌≡◌, refl, ◌∙◌}
use native.Mathlib.Nat.{add-zero}
use native.Mathlib.Omega.{arith}
use lib.ListN.{length, take, drop, length-drop}
use lib.Seq.{get_or-drop, drop-drop}
use Rattle.std.proofs.lemmas.List.{take_rest}
use Rattle.record_layout.specs.Bytes.{byte_at}
use Rattle.record_layout.specs.Declarations.{declarations_of}
use Rattle.record_layout.proofs.Fronts.{by_front}

declarations_front : (l : List ℕ) → 1 < length l → declarations_of l ≡ record { object = byte_at l 0; supremum = byte_at l 1 } ∷ declarations_of (drop 2 l)
declarations_front (object ∷ supremum ∷ rest) h = refl
declarations_front (object ∷ []) h = absurd (omega arith)
declarations_front [] h = absurd (omega arith)

declarations_none : (l : List ℕ) → length l ≤ 1 → declarations_of l ≡ []
declarations_none (object ∷ supremum ∷ rest) h = absurd (omega arith)
declarations_none (object ∷ []) h = refl
declarations_none [] h = refl

pub declarations_next : (l : List ℕ) (at : ℕ) → 1 < length l - at
    → declarations_of (drop at l) ≡ record { object = byte_at l at; supremum = byte_at l (at + 1) } ∷ declarations_of (drop (at + 2) l)
declarations_next l at h =
    let k : 1 < length (drop at l) = simp length-drop h in
    declarations_front (drop at l) k ∙ simp (get_or-drop, drop-drop, add-zero)

pub declarations_end : (l : List ℕ) (at : ℕ) → length l - at ≤ 1 → declarations_of (drop at l) ≡ []
declarations_end l at h = declarations_none (drop at l) (simp length-drop h)

-- the first declaration and the bytes behind it
pub declarations_first : (l : List ℕ) → 2 ≤ length l
    → declarations_of l ≡ record { object = byte_at l 0; supremum = byte_at l 1 } ∷ declarations_of (take (length l - 2) (drop 2 l))
declarations_first l long =
    by_front 2 (λ (s : List ℕ). declarations_of s ≡ record { object = byte_at s 0; supremum = byte_at s 1 } ∷ declarations_of (drop 2 s))
    (λ object supremum rest. refl) l long
    ∙ rw take_rest

-- an even list that is not empty declares an object
pub declarations_some : (l : List ℕ) → length l ≢ 0 → length l % 2 ≡ 0 → declarations_of l ≢ []
declarations_some (object ∷ supremum ∷ rest) some even = λ none. let clash : ◌≡◌ {A = ℕ} 0 1 = cc in omega arith
declarations_some (object ∷ []) some even = absurd (omega arith)
declarations_some [] some even = absurd (some refl)
