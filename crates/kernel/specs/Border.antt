-- What a caller in another language has in its hands behind a call: its memory, the number and the value, and the buffer.
use Rattle.std.specs.Prelude.{ℕ, Bool, List}
use Rattle.rules.specs.Steps.{Stepping, Outcome}
use Rattle.pump.specs.Held.{held}

abbrev pub given : List ℕ → List ℕ → List Bool → ℕ → ℕ → Stepping
given w b k number value = record { tables = held w b k; reply = record { number = number; value = value } }

abbrev pub given_with : List ℕ → List ℕ → List Bool → ℕ → ℕ → List ℕ → Outcome
given_with w b k number value buffer = record { tables = held w b k; reply = record { number = number; value = value }; buffer = buffer }
