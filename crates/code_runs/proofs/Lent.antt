-- A chain of steps in place is the same chain: the memory that one leaves is the memory that the next is lent.
use Prim.Native.Nat.{ℕ}
use mathlib.Core.Bool.{Bool}
use mathlib.Core.List.{List}
use mathlib.Core.Path.{◌≡◌}
use Rattle.answers.specs.Numbers.{Answer}
use Rattle.counters.specs.Sizes.{base}
use Rattle.record_layout.specs.declared.fields.Fields.{Fields}
use Rattle.machine.specs.declared.Tables.{Tables}
use Rattle.pump.specs.Held.{held, left_with}
use Rattle.rules.specs.Tables.{fresh_tables}
use Rattle.rules.specs.Steps.{fields_step, record_step}
use Rattle.events.specs.Promises.{FreshGives, StepGives, RecordGives}

abbrev pub memory : List ℕ → List ℕ → List Bool → Tables
memory w b k = record { words = w; bytes = b; marks = k }

module _ (w b w' b' : List ℕ) (k k' : List Bool) where
  pub fresh_lent : (words : List ℕ) (first : ℕ) → held w b k ≡ fresh_tables base words first → FreshGives first words (memory w b k)
  fresh_lent words first e = e

  pub step_lent : (fields : Fields) (list buffer buffer' : List ℕ) (answer : Answer)
      → left_with w' b' k' answer buffer' ≡ fields_step base (held w b k) fields list buffer
      → StepGives (memory w b k) fields list buffer (record { tables = memory w' b' k'; answer = answer }) buffer'
  step_lent fields list buffer buffer' answer e = e

  pub record_lent : (bytes buffer buffer' : List ℕ) (answer : Answer)
      → left_with w' b' k' answer buffer' ≡ record_step base (held w b k) bytes buffer
      → RecordGives (memory w b k) bytes buffer (record { tables = memory w' b' k'; answer = answer }) buffer'
  record_lent bytes buffer buffer' answer e = e
