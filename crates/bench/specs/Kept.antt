-- What a read of the input leaves of a buffer: the bytes at hand as they were, in front, and no more than the buffer behind them.
use Rattle.std.specs.Prelude.{ℕ, ◌≤◌, true, List, ◌≡◌, length, take}
use Rattle.bench.specs.declared.input.Input.{Input}

pub record Kept (read : Input) (hand : ℕ) (before after : List ℕ) : Type 0 where
  pub front : take hand after ≡ take hand before
  pub more : hand ≤ read.hand
  pub inside : read.hand ≤ length after
  pub at_the_end : read.ended ≡ true → read.hand ≡ hand
