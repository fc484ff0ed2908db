-- A line is short, and it is put where it has room.
use Rattle.std.specs.Prelude.{Ok, Err}
use Prim.Native.Nat.{ℕ, ◌+◌, ◌<◌, ◌≤◌}
use mathlib.Core.List.{List, [], ◌++◌}
use mathlib.Core.Path.{◌≡◌, refl, ap, ◌∙◌}
use mathlib.Core.Bool.{Bool, true, false}
use native.Mathlib.Nat.{add-zero}
use native.Mathlib.Omega.{arith}
use lib.Dec.{ltb}
use lib.ListN.{length, take, drop, take-append-drop}
use borrow.Author.Tests.{lt-ltb, le-ltb, ltb-false}
use Rattle.answers.specs.Numbers.{reply_of, Answer}
use Rattle.answers.specs.Order.{pick}
use Rattle.answers.specs.declared.Refusal.TheVariants.{BadSlot, BadObject, BadList, Busy, Idle, NotDeclared, BadCall, Released, Doomed, Wait, NoRoom, BadRecord}
use Rattle.bench_lines.specs.Buffers.{lent, put_at}

-- text that has no room at a place of a buffer, and text that has
module _ (text buffer : List ℕ) (at : ℕ) where
  pub no_place : length buffer < at + length text → put_at text buffer at ≡ lent 0 buffer
  no_place h = rw (lt-ltb (length buffer) (at + length text) h)

  pub in_place : at + length text ≤ length buffer
      → put_at text buffer at ≡ lent (length text) (take at buffer ++ (text ++ drop (at + length text) buffer))
  in_place h = rw (le-ltb (length buffer) (at + length text) h)

  -- what is written ends within the buffer
  pub ends_within : at ≤ length buffer → at + (put_at text buffer at).count ≤ length buffer
  ends_within inside = go (ltb (length buffer) (at + length text)) refl
    where
      go : (short : Bool) → ltb (length buffer) (at + length text) ≡ short
          → at + (pick short (lent 0 buffer) (lent (length text) (take at buffer ++ (text ++ drop (at + length text) buffer)))).count ≤ length buffer
      go true e = omega arith
      go false e = ltb-false (length buffer) (at + length text) e

-- no text changes nothing
pub nothing_put : (buffer : List ℕ) (at : ℕ) → put_at [] buffer at ≡ lent 0 buffer
nothing_put buffer at = go (ltb (length buffer) (at + 0))
  where
    go : (short : Bool) → pick short (lent 0 buffer) (lent 0 (take at buffer ++ drop (at + 0) buffer)) ≡ lent 0 buffer
    go true = refl
    go false = ap (lent 0) (ap (λ (n : ℕ). take at buffer ++ drop n buffer) (add-zero at) ∙ take-append-drop at buffer)

-- the numbers of the table have two digits
pub two_digits : (a : Answer) → (reply_of a).number < 100
two_digits (Ok v) = omega arith
two_digits (Err BadSlot) = omega arith
two_digits (Err BadObject) = omega arith
two_digits (Err BadList) = omega arith
two_digits (Err Busy) = omega arith
two_digits (Err Idle) = omega arith
two_digits (Err NotDeclared) = omega arith
two_digits (Err BadCall) = omega arith
two_digits (Err Released) = omega arith
two_digits (Err Doomed) = omega arith
two_digits (Err Wait) = omega arith
two_digits (Err NoRoom) = omega arith
two_digits (Err BadRecord) = omega arith
