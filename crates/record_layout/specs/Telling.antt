-- What a caller is told by a framing and by a reading: a number and values, as by every answer.
use Rattle.record_layout.specs.Reading.{Framing, Reading}
use Rattle.std.specs.Prelude.{ℕ, List, [], ◌∷◌, Ok, Err}
use Rattle.answers.specs.Numbers.{number_of}
use Rattle.record_layout.specs.Kinds.{shape_of}
use Rattle.record_layout.specs.Fields.{kind_of_fields}
use Rattle.record_layout.specs.declared.fields.Event.{Event}
use Rattle.record_layout.specs.declared.fields.Fields.{Fields}

-- R20: the number is 0 where nothing refuses; beside a refusal's there are no values
pub record Told : Type 0 where
  pub number : ℕ
  pub values : List ℕ

-- R24, R26: the values of fields, in the order of the head
abbrev pub event_values : Event → List ℕ
event_values (Event.Start slot) = slot.0 ∷ []
event_values (Event.Call slot object kind argument) = slot.0 ∷ object.0 ∷ kind ∷ argument ∷ []
event_values (Event.Release slot object) = slot.0 ∷ object.0 ∷ []
event_values (Event.End slot tick rollback) = slot.0 ∷ tick ∷ []

abbrev pub values_of : Fields → List ℕ
values_of (Fields.Fresh first) = first.0 ∷ []
values_of (Fields.Event event) = event_values event
values_of (Fields.Ended tick slot rollback) = tick ∷ slot.0 ∷ []

-- R28: the length of the body and the number of the kind, or the refusal
unfoldable pub told_by_framing : Framing → Told
told_by_framing (Ok frame) = record { number = 0; values = frame.length ∷ frame.number ∷ [] }
told_by_framing (Err refusal) = record { number = number_of refusal; values = [] }

-- R29: the place of the list, the bytes taken, the number of the kind and the fields, or the refusal
unfoldable pub told_by_reading : Reading → Told
told_by_reading (Ok read) = record { number = 0; values = read.list ∷ read.taken ∷ (shape_of (kind_of_fields read.fields)).number ∷ values_of read.fields }
told_by_reading (Err refusal) = record { number = number_of refusal; values = [] }
