-- What is done with a lent buffer: text is put at a place of it, or what is left of it moves to the front.
use Rattle.std.specs.Prelude.{ℕ, ◌+◌, List, ◌++◌, length, take, drop, ltb}
use Rattle.answers.specs.declared.Reply.{Reply}
use Rattle.answers.specs.Order.{pick}
use Rattle.bench_lines.specs.Lines.{line_of}

-- what a caller sees of it: a count of bytes, and all of the buffer
pub record Lent : Type 0 where
  pub count : ℕ
  pub buffer : List ℕ

abbrev pub lent : ℕ → List ℕ → Lent
lent count buffer = record { count = count; buffer = buffer }

-- text at a place; where it has no room there nothing is written
abbrev pub put_at : List ℕ → List ℕ → ℕ → Lent
put_at text buffer at =
    pick (ltb (length buffer) (at + length text)) (lent 0 buffer)
    (lent (length text) (take at buffer ++ (text ++ drop (at + length text) buffer)))

-- a line at a place of a buffer
abbrev pub line_put : ℕ → Reply → List ℕ → ℕ → Lent
line_put event reply buffer at = put_at (line_of event reply) buffer at

-- the bytes from a place on, at the front; those behind them stay
abbrev pub moved_to_front : List ℕ → ℕ → Lent
moved_to_front buffer from = lent (length (drop from buffer)) (drop from buffer ++ drop (length (drop from buffer)) buffer)
