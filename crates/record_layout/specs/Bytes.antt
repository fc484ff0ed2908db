-- 'Little-endian': numbers of 16 and 32 bits as bytes, and back. Past the end a byte is 0.
use Rattle.std.specs.Prelude.{ℕ, ◌+◌, ◌*◌, ◌/◌, ◌%◌, ◌<◌, List, [], ◌∷◌, ◌≡◌, get_or}
use Rattle.std.specs.Borrow.{Bor}

abbrev pub half_bytes : ℕ → List ℕ
half_bytes n = n % 256 ∷ n / 256 % 256 ∷ []

abbrev pub word_bytes : ℕ → List ℕ
word_bytes n = n % 256 ∷ n / 256 % 256 ∷ n / 256 / 256 % 256 ∷ n / 256 / 256 / 256 % 256 ∷ []

abbrev pub byte_at : List ℕ → ℕ → ℕ
byte_at s at = get_or s at 0

-- the number that the first bytes make
abbrev pub half_of : List ℕ → ℕ
half_of s = byte_at s 0 + 256 * byte_at s 1

abbrev pub word_of : List ℕ → ℕ
word_of s = byte_at s 0 + 256 * (byte_at s 1 + 256 * (byte_at s 2 + 256 * byte_at s 3))

-- every element is a byte
pub record AreBytes (s : List ℕ) : Type 0 where
  pub each : (at : ℕ) → byte_at s at < 256

-- the place so many bytes behind a place in memory
abbrev pub moved : ℕ × ℕ → ℕ → ℕ × ℕ
moved place bytes = (place.0, bytes + place.1)

-- r is the part of s that begins at a place and holds these bytes: the very bytes of s, and no copy
pub record IsPart (r s : Bor (List ℕ)) (place : ℕ) (held : List ℕ) : Type 0 where
  pub bytes : r.now ≡ held
  pub place_is : r.ref_ptr ≡ moved s.ref_ptr place
