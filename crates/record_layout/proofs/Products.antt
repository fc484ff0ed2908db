-- The product of two bytes is small.
use Prim.Native.Nat.{ℕ, ◌*◌, ◌<◌, ◌≤◌}
use native.Mathlib.Nat.{mul-le-mul_right}
use native.Mathlib.Omega.{arith}

pub bytes_product : (a b : ℕ) → a < 256 → b < 256 → a * b < 65536
bytes_product a b ha hb =
    let h : a ≤ 255 = omega arith in
    omega (arith, mul-le-mul_right b h)
