-- What a task hands in: the fields of a record, the list beside them, and the buffer that it is lent.
use Rattle.std.specs.Prelude.{ℕ, List}
use Rattle.counters.specs.Sizes.{Size}
use Rattle.record_layout.specs.declared.fields.Fields.{Fields}
use Rattle.rules.specs.Tables.{State}
use Rattle.rules.specs.Steps.{Outcome, fields_step}

pub record Handed : Type 0 where
  pub fields : Fields
  pub list : List ℕ
  pub buffer : List ℕ

abbrev pub outcome_of : Size → State → Handed → Outcome
outcome_of z t handed = fields_step z t handed.fields handed.list handed.buffer
