-- What a method makes of the memory that it is lent, by what becomes of the tables.
use Rattle.std.specs.Prelude.{ℕ, Bool, List, ◌≡◌}
use Rattle.std.specs.Borrow.{MutBor}
use Rattle.counters.specs.Sizes.{Size}
use Rattle.answers.specs.Numbers.{reply_of, Answer}
use Rattle.rules.specs.Steps.{Stepping, Outcome}
use Rattle.rules.specs.Tables.{State}
use Rattle.tables.specs.Views.{view}
use Rattle.tables.specs.declared.memory.Memory.{Memory}

abbrev pub tables_of : Memory → State
tables_of m = view m.size m.words.now m.bytes.now m.marks.now

-- the same three lists
pub record Same (before after : Memory) : Type 0 where
  pub size : after.size ≡ before.size
  pub words : after.words.ghost_name ≡ before.words.ghost_name
  pub bytes : after.bytes.ghost_name ≡ before.bytes.ghost_name
  pub marks : after.marks.ghost_name ≡ before.marks.ghost_name

-- and in them the tables that the change makes
pub record Became (before after : Memory) (change : State → State) : Type 0 where
  pub same : Same before after
  pub tables : tables_of after ≡ change (tables_of before)

-- memory made of three lists is these lists
pub record Lent (m : Memory) (words bytes : MutBor (List ℕ)) (marks : MutBor (List Bool)) (size : Size) : Type 0 where
  pub words_are : m.words.ghost_name ≡ words.ghost_name
  pub bytes_are : m.bytes.ghost_name ≡ bytes.ghost_name
  pub marks_are : m.marks.ghost_name ≡ marks.ghost_name
  pub size_is : m.size ≡ size

-- what a step leaves and answers, by the rules' step
pub record Stepped (before after : Memory) (answer : Answer) (stepping : Stepping) : Type 0 where
  pub same : Same before after
  pub is_step : record { tables = tables_of after; reply = reply_of answer } ≡ stepping

-- the same with the buffer that was lent
pub record Ended (before after : Memory) (answer : Answer) (buffer : List ℕ) (outcome : Outcome) : Type 0 where
  pub same : Same before after
  pub is_step : record { tables = tables_of after; reply = reply_of answer; buffer = buffer } ≡ outcome
