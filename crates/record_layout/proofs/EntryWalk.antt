-- The entries of a list of bytes, one after the other: what a walk sees, over the entries or in steps of five bytes.
use Prim.Native.Nat.{ℕ, ◌+◌, ◌-◌, ◌≤◌, ◌<◌}
use mathlib.Core.Bool.{true, false}
use mathlib.Core.Path.{◌≡◌, refl, ap, ◌∙◌}
use borrow.Author.Tests.{le-leb, lt-leb, lt-ltb, le-ltb}
use mathlib.Core.List.{List, [], ◌∷◌}
use native.Mathlib.Omega.{arith}
use lib.ListN.{length, take, drop, length-drop}
use lib.Seq.{get_or-drop, drop-drop}
use native.Mathlib.Nat.{add-zero}
use Rattle.std.proofs.lemmas.List.{take_rest}
use Rattle.record_layout.specs.Bytes.{byte_at, word_of}
use Rattle.record_layout.specs.Entries.{entries_of, rising_from}
use Rattle.record_layout.proofs.Fronts.{by_front}

entries_front : (l : List ℕ) → 4 < length l → entries_of l ≡ record { object = byte_at l 0; version = word_of (drop 1 l) } ∷ entries_of (drop 5 l)
entries_front (o ∷ a ∷ b ∷ c ∷ d ∷ rest) h = refl
entries_front (o ∷ a ∷ b ∷ c ∷ []) h = absurd (omega arith)
entries_front (o ∷ a ∷ b ∷ []) h = absurd (omega arith)
entries_front (o ∷ a ∷ []) h = absurd (omega arith)
entries_front (o ∷ []) h = absurd (omega arith)
entries_front [] h = absurd (omega arith)

entries_none : (l : List ℕ) → length l ≤ 4 → entries_of l ≡ []
entries_none (o ∷ a ∷ b ∷ c ∷ d ∷ rest) h = absurd (omega arith)
entries_none (o ∷ a ∷ b ∷ c ∷ []) h = refl
entries_none (o ∷ a ∷ b ∷ []) h = refl
entries_none (o ∷ a ∷ []) h = refl
entries_none (o ∷ []) h = refl
entries_none [] h = refl

pub entries_next : (l : List ℕ) (at : ℕ) → 4 < length l - at
    → entries_of (drop at l) ≡ record { object = byte_at l at; version = word_of (drop (at + 1) l) } ∷ entries_of (drop (at + 5) l)
entries_next l at h =
    let k : 4 < length (drop at l) = simp length-drop h in
    entries_front (drop at l) k ∙ simp (get_or-drop, drop-drop, add-zero)

pub entries_end : (l : List ℕ) (at : ℕ) → length l - at ≤ 4 → entries_of (drop at l) ≡ []
entries_end l at h = entries_none (drop at l) (simp length-drop h)

-- the first entry and the bytes behind it
pub entries_first : (l : List ℕ) → 5 ≤ length l
    → entries_of l ≡ record { object = byte_at l 0; version = word_of (drop 1 l) } ∷ entries_of (take (length l - 5) (drop 5 l))
entries_first l long = by_front 5 (λ (l : List ℕ). entries_of l ≡ record { object = byte_at l 0; version = word_of (drop 1 l) } ∷ entries_of (drop 5 l))
    (λ o a b c d rest. refl) l long ∙ rw take_rest

-- whether the entries from a place on rise, by the object there
module _ (objects least : ℕ) (l : List ℕ) (at : ℕ) where
  pub rises_on : 4 < length l - at → least ≤ byte_at l at → byte_at l at < objects
      → rising_from objects least (entries_of (drop at l)) ≡ rising_from objects (byte_at l at + 1) (entries_of (drop (at + 5) l))
  rises_on h low high = ap (rising_from objects least) (entries_next l at h) ∙ simp (le-leb _ _ low, lt-ltb _ _ high)

  pub too_low : 4 < length l - at → byte_at l at < least → rising_from objects least (entries_of (drop at l)) ≡ false
  too_low h low = ap (rising_from objects least) (entries_next l at h) ∙ simp (lt-leb _ _ low)

  pub too_high : 4 < length l - at → least ≤ byte_at l at → objects ≤ byte_at l at → rising_from objects least (entries_of (drop at l)) ≡ false
  too_high h low high = ap (rising_from objects least) (entries_next l at h) ∙ simp (le-leb _ _ low, le-ltb _ _ high)

  pub rises_end : length l - at ≤ 4 → rising_from objects least (entries_of (drop at l)) ≡ true
  rises_end h = ap (rising_from objects least) (entries_end l at h)
