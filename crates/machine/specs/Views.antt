-- The machine's tables as the rules see them, and what a step gives back.
use Rattle.std.specs.Prelude.{ℕ, List}
use Rattle.answers.specs.Numbers.{reply_of}
use Rattle.rules.specs.Tables.{State}
use Rattle.rules.specs.Steps.{Stepping, Outcome}
use Rattle.pump.specs.Held.{held}
use Rattle.machine.specs.declared.Tables.{Tables}
use Rattle.machine.specs.declared.Stepped.{Stepped}

abbrev pub view : Tables → State
view t = held t.words t.bytes t.marks

abbrev pub told : Stepped → Stepping
told r = record { tables = view r.tables; reply = reply_of r.answer }

-- the same with the buffer that was lent
abbrev pub told_with : Stepped → List ℕ → Outcome
told_with r buffer = record { tables = view r.tables; reply = reply_of r.answer; buffer = buffer }
