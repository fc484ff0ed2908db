-- R24, R26: the fields of each kind, read from a body, and the record that fields and a list make.
use Rattle.std.specs.Prelude.{ℕ, ◌+◌, ◌/◌, List, [], ◌∷◌, ◌++◌, length, drop}
use Rattle.record_layout.specs.Bytes.{half_bytes, word_bytes, byte_at, word_of}
use Rattle.record_layout.specs.Kinds.{shape_of}
use Rattle.record_layout.specs.declared.kind.Kind.{Kind}
use Rattle.record_layout.specs.declared.kind.Kind.TheVariants.{Fresh, Start, Call, Release, End, Ended}
use Rattle.record_layout.specs.declared.fields.Event.{Event}
use Rattle.record_layout.specs.declared.fields.Fields.{Fields}

-- what a body says, the list aside
abbrev pub fields_of : Kind → List ℕ → Fields
fields_of Fresh b = Fields.Fresh (record { 0 = word_of b })
fields_of Start b = Fields.Event (Event.Start (record { 0 = byte_at b 0 }))
fields_of Call b = Fields.Event (Event.Call (record { 0 = byte_at b 0 }) (record { 0 = byte_at b 1 }) (byte_at b 2) (word_of (drop 4 b)))
fields_of Release b = Fields.Event (Event.Release (record { 0 = byte_at b 0 }) (record { 0 = byte_at b 1 }))
fields_of (End rollback) b = Fields.Event (Event.End (record { 0 = byte_at b 0 }) (word_of (drop 1 b)) rollback)
fields_of (Ended rollback) b = Fields.Ended (word_of b) (record { 0 = byte_at b 4 }) rollback

abbrev pub kind_of_event : Event → Kind
kind_of_event (Event.Start slot) = Start
kind_of_event (Event.Call slot object kind argument) = Call
kind_of_event (Event.Release slot object) = Release
kind_of_event (Event.End slot tick rollback) = End rollback

abbrev pub kind_of_fields : Fields → Kind
kind_of_fields (Fields.Fresh first) = Fresh
kind_of_fields (Fields.Event event) = kind_of_event event
kind_of_fields (Fields.Ended tick slot rollback) = Ended rollback

-- the bytes of a body in front of a list of so many bytes
abbrev pub event_head : Event → ℕ → List ℕ
event_head (Event.Start slot) bytes = slot.0 ∷ bytes / 2 ∷ []
event_head (Event.Call slot object kind argument) bytes = slot.0 ∷ object.0 ∷ kind ∷ 0 ∷ word_bytes argument
event_head (Event.Release slot object) bytes = slot.0 ∷ object.0 ∷ []
event_head (Event.End slot tick rollback) bytes = slot.0 ∷ word_bytes tick

abbrev pub head_of : Fields → ℕ → List ℕ
head_of (Fields.Fresh first) bytes = word_bytes first.0
head_of (Fields.Event event) bytes = event_head event bytes
head_of (Fields.Ended tick slot rollback) bytes = word_bytes tick ++ (slot.0 ∷ bytes / 5 ∷ [])

abbrev pub body_of : Fields → List ℕ → List ℕ
body_of f list = head_of f (length list) ++ list

-- where the list of a record stands: behind the frame and the head
abbrev pub list_place : Kind → ℕ
list_place k = 4 + (shape_of k).head

-- all of a record in front of its list: the length of the body, the kind, and the head
abbrev pub front_of : Fields → ℕ → List ℕ
front_of f bytes = half_bytes ((shape_of (kind_of_fields f)).head + bytes) ++ (half_bytes (shape_of (kind_of_fields f)).number ++ head_of f bytes)

abbrev pub record_of : Fields → List ℕ → List ℕ
record_of f list = front_of f (length list) ++ list
