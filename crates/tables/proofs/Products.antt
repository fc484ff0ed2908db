-- The number of a pair is small: sizes have a byte each.
use Prim.Native.Nat.{ℕ, ◌+◌, ◌*◌, ◌≤◌, ◌<◌}
use mathlib.Core.Path.{◌≡◌}
use native.Mathlib.Nat.{mul-le-mul_right}
use native.Mathlib.Omega.{arith}

pub pairs_few : (slots objects : ℕ) → slots ≤ 255 → objects ≤ 255 → slots * objects ≤ 65025
pairs_few slots objects few small = omega (arith, mul-le-mul_right objects few)

-- one slot's pairs lie before the end
pub row_inside : (s slots objects : ℕ) → s < slots → s * objects + objects ≤ slots * objects
row_inside s slots objects under = omega (arith, mul-le-mul_right objects under)

pub row_next : (r m o : ℕ) → (r + 1) * m + o ≡ r * m + o + m
row_next r m o = omega arith
