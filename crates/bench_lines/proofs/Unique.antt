-- No second answer fits the promise of a lent buffer: what is told of it fixes the count and every byte.
use Prim.Native.Nat.{ℕ}
use mathlib.Core.List.{List}
use mathlib.Core.Path.{◌≡◌, ap}
use Rattle.bench_lines.specs.Buffers.{Lent, lent}

pub lent_tells : (n m : ℕ) (left right : List ℕ) → lent n left ≡ lent m right → (n ≡ m) × (left ≡ right)
lent_tells n m left right e = (ap (λ (l : Lent). l.count) e, ap (λ (l : Lent). l.buffer) e)
