-- The promises of fresh, of a step by fields and of a step by bytes, which a chain of steps cites.
use Rattle.std.specs.Prelude.{ℕ, List, ◌≡◌}
use Rattle.counters.specs.Sizes.{base}
use Rattle.record_layout.specs.declared.fields.Fields.{Fields}
use Rattle.record_layout.specs.Reading.{Reading}
use Rattle.machine.specs.Views.{view, told_with}
use Rattle.machine.specs.declared.Tables.{Tables}
use Rattle.machine.specs.declared.Stepped.{Stepped}
use Rattle.rules.specs.Tables.{fresh_tables}
use Rattle.rules.specs.Steps.{fields_step, read_step, record_step}

-- what `fresh` promises of the tables that it returns
abbrev pub FreshGives : ℕ → List ℕ → Tables → Type 0
FreshGives first words t = view t ≡ fresh_tables base words first

-- what `step` promises of what it returns and of the buffer afterwards
abbrev pub StepGives : Tables → Fields → List ℕ → List ℕ → Stepped → List ℕ → Type 0
StepGives t fields list buffer r afterwards = told_with r afterwards ≡ fields_step base (view t) fields list buffer

-- the same of `step_read`
abbrev pub ReadGives : Tables → Reading → List ℕ → List ℕ → Stepped → List ℕ → Type 0
ReadGives t read list buffer r afterwards = told_with r afterwards ≡ read_step base (view t) read list buffer

-- the same of `step_record`
abbrev pub RecordGives : Tables → List ℕ → List ℕ → Stepped → List ℕ → Type 0
RecordGives t bytes buffer r afterwards = told_with r afterwards ≡ record_step base (view t) bytes buffer
