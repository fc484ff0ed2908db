-- The first bytes of a list and the rest: parts of bytes are bytes, and a list that is long enough begins with bytes that have names.
use Prim.Native.Nat.{ℕ, zero, suc, ◌+◌, ◌≤◌, ◌<◌}
use mathlib.Core.List.{List, [], ◌∷◌, ◌++◌}
use mathlib.Core.Path.{◌≡◌, sym, ap, ◌∙◌}
use native.Mathlib.Nat.{le_of_suc-le-suc, not-suc-le-zero}
use native.Mathlib.Omega.{arith}
use lib.ListN.{length, take, drop}
use lib.Seq.{get_or-drop, drop-append_seam}
use Rattle.record_layout.specs.Bytes.{half_bytes, word_bytes, byte_at, half_of, word_of, AreBytes}
use Rattle.record_layout.proofs.LittleEndian.{half_again, word_again}

-- P of any so many bytes in front of any rest
abbrev pub OfFront : ℕ → (List ℕ → Type 0) → Type 0
OfFront zero P = (rest : List ℕ) → P rest
OfFront (suc n) P = (a : ℕ) → OfFront n (λ rest. P (a ∷ rest))

-- a list that is long enough splits into its first bytes and the rest
pub by_front : (n : ℕ) (P : List ℕ → Type 0) → OfFront n P → (s : List ℕ) → n ≤ length s → P s
by_front zero P holds s long = holds s
by_front (suc n) P holds [] long = absurd (not-suc-le-zero long)
by_front (suc n) P holds (a ∷ s) long = by_front n (λ rest. P (a ∷ rest)) (holds a) s (le_of_suc-le-suc long)

-- parts of bytes are bytes
pub bytes_drop : (n : ℕ) (s : List ℕ) → AreBytes s → AreBytes (drop n s)
bytes_drop n s bytes = record { each = λ at. rw get_or-drop (bytes.each (n + at)) }

bytes_taken : (n : ℕ) (s : List ℕ) → ((at : ℕ) → byte_at s at < 256) → (at : ℕ) → byte_at (take n s) at < 256
bytes_taken zero s each at = omega arith
bytes_taken (suc n) [] each at = omega arith
bytes_taken (suc n) (a ∷ s) each zero = each 0
bytes_taken (suc n) (a ∷ s) each (suc at) = bytes_taken n s (λ i. each (suc i)) at

pub bytes_take : (n : ℕ) (s : List ℕ) → AreBytes s → AreBytes (take n s)
bytes_take n s bytes = record { each = bytes_taken n s bytes.each }

-- the first two bytes are those of the number that they make
pub half_front : (s : List ℕ) → 2 ≤ length s → AreBytes s → half_bytes (half_of s) ++ drop 2 s ≡ s
half_front = by_front 2 (λ (s : List ℕ). AreBytes s → half_bytes (half_of s) ++ drop 2 s ≡ s)
    (λ a b rest bytes. ap (λ (x : List ℕ). x ++ rest) (half_again a b rest (bytes.each 0) (bytes.each 1)))

-- the first four bytes are those of the number that they make
pub word_front : (s : List ℕ) → 4 ≤ length s → AreBytes s → word_bytes (word_of s) ++ drop 4 s ≡ s
word_front = by_front 4 (λ (s : List ℕ). AreBytes s → word_bytes (word_of s) ++ drop 4 s ≡ s)
    (λ a b c d rest bytes.
    ap (λ (x : List ℕ). x ++ rest) (word_again a b c d rest (bytes.each 0) (bytes.each 1) (bytes.each 2) (bytes.each 3)))

-- what stands behind a front is found by the front's length
pub behind_front : (s front rest : List ℕ) → s ≡ front ++ rest → s ≡ front ++ drop (length front) s
behind_front s front rest e = e ∙ ap (λ (x : List ℕ). front ++ x) (sym (ap (drop (length front)) e ∙ drop-append_seam front rest))
