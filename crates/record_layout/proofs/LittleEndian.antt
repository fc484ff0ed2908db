-- 'Little-endian': numbers come back from their bytes, and bytes from their number, whatever stands behind them.
use Prim.Native.Nat.{ℕ, ◌+◌, ◌*◌, ◌/◌, ◌%◌, ◌<◌, ◌^◌}
use mathlib.Core.List.{List, [], ◌∷◌, ◌++◌}
use mathlib.Core.Path.{◌≡◌}
use native.Mathlib.Omega.{arith}
use native.Mathlib.Nat.{mod-eq_of_lt}
use Rattle.record_layout.specs.Bytes.{half_bytes, word_bytes, half_of, word_of}

-- a number of 16 bits comes back from its bytes
pub half_back : (n : ℕ) (behind : List ℕ) → n < 65536 → half_of (half_bytes n ++ behind) ≡ n
half_back n behind h = omega arith

-- a number of 32 bits comes back from its bytes
pub word_back : (n : ℕ) (behind : List ℕ) → n < 2 ^ 32 → word_of (word_bytes n ++ behind) ≡ n
word_back n behind h = omega arith

-- the lowest byte of a number, and the number that the bytes above it make
lowest : (byte above : ℕ) → byte < 256 → (byte + 256 * above) % 256 ≡ byte
lowest byte above h = omega arith

higher : (byte above : ℕ) → byte < 256 → (byte + 256 * above) / 256 ≡ above
higher byte above h = omega arith

-- two bytes come back from their number
pub half_again : (a b : ℕ) (behind : List ℕ) → a < 256 → b < 256 → half_bytes (half_of (a ∷ b ∷ behind)) ≡ a ∷ b ∷ []
half_again a b behind ha hb = simp (lowest, higher, mod-eq_of_lt)

-- four bytes come back from their number
pub word_again : (a b c d : ℕ) (behind : List ℕ) → a < 256 → b < 256 → c < 256 → d < 256
    → word_bytes (word_of (a ∷ b ∷ c ∷ d ∷ behind)) ≡ a ∷ b ∷ c ∷ d ∷ []
word_again a b c d behind ha hb hc hd = simp (lowest, higher, mod-eq_of_lt)
