-- What the pump's memory holds, as the rules see it, and what a step in place leaves and answers.
use Rattle.std.specs.Prelude.{ℕ, Bool, List}
use Rattle.answers.specs.Numbers.{reply_of, Answer}
use Rattle.counters.specs.Sizes.{base}
use Rattle.rules.specs.Tables.{State}
use Rattle.rules.specs.Steps.{Stepping, Outcome}
use Rattle.tables.specs.Views.{view}

abbrev pub held : List ℕ → List ℕ → List Bool → State
held w b k = view base w b k

abbrev pub left : List ℕ → List ℕ → List Bool → Answer → Stepping
left w b k answer = record { tables = held w b k; reply = reply_of answer }

-- the same with the buffer that was lent
abbrev pub left_with : List ℕ → List ℕ → List Bool → Answer → List ℕ → Outcome
left_with w b k answer buffer = record { tables = held w b k; reply = reply_of answer; buffer = buffer }
