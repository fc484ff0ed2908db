-- No second answer fits a writer's promise: what is told of it fixes the answer and every byte of the buffer.
use Prim.Native.Nat.{ℕ}
use mathlib.Core.List.{List}
use mathlib.Core.Path.{◌≡◌, ap}
use Rattle.answers.proofs.Tells.{reply_tells}
use Rattle.answers.specs.Numbers.{Answer}
use Rattle.record_layout.specs.Writing.{Written, written}

pub written_tells : (a b : Answer) (left right : List ℕ) → written a left ≡ written b right → (a ≡ b) × (left ≡ right)
written_tells a b left right e = (reply_tells a b (ap (λ (w : Written). w.reply) e), ap (λ (w : Written). w.buffer) e)
