-- R28 to R30: the frame and its body, and the first record by its fields or the refusal, the checks in their order.
use Rattle.record_layout.specs.declared.fields.Fields.{Fields}
use Rattle.record_layout.specs.declared.fields.Frame.{Frame}
use Rattle.record_layout.specs.declared.fields.Record.{Record}
use Rattle.std.specs.Prelude.{ℕ, ◌+◌, ◌-◌, Bool, true, not, ◌&&◌, List, [], ◌∷◌, length, take, drop, ltb, eqb, Option, Some, None, Result, Ok, Err}
use Rattle.answers.specs.Order.{Rule, decide, ◌when◌}
use Rattle.answers.specs.declared.Refusal.{Refusal}
use Rattle.answers.specs.declared.Refusal.TheVariants.{BadRecord}
use Rattle.counters.specs.Sizes.{Size}
use Rattle.record_layout.specs.Bytes.{byte_at, half_of}
use Rattle.record_layout.specs.Kinds.{kind_of, body_length, body_limit}
use Rattle.record_layout.specs.Entries.{entries_of, rising_from}
use Rattle.record_layout.specs.Fields.{fields_of, list_place}
use Rattle.record_layout.specs.declared.kind.Kind.{Kind}
use Rattle.record_layout.specs.declared.kind.Kind.TheVariants.{Fresh, Start, Call, Release, End, Ended}

abbrev pub length_field : List ℕ → ℕ
length_field s = half_of s

abbrev pub kind_field : List ℕ → ℕ
kind_field s = half_of (drop 2 s)

-- R28, 1 to 3: under 4 bytes, a length over the limit, a body that is not all there
abbrev pub frame_rules : Size → List ℕ → List Rule
frame_rules z s =
    BadRecord when ltb (length s) 4
    ∷ BadRecord when ltb (body_limit z) (length_field s)
    ∷ BadRecord when ltb (length s) (4 + length_field s)
    ∷ []

-- a frame that is whole, or the refusal
abbrev pub Framing : Type 0
Framing = Result Frame Refusal

abbrev pub framed_as : ℕ → ℕ → Framing
framed_as length number = Ok (record { length = length; number = number })

abbrev pub framing : Size → List ℕ → Framing
framing z s = decide (frame_rules z s) Err (framed_as (length_field s) (kind_field s))

-- R30: the body and its place; where the frame fails, an empty part
abbrev pub body : Size → List ℕ → List ℕ
body z s = decide (frame_rules z s) (λ refusal. []) (take (length_field s) (drop 4 s))

abbrev pub body_place : Size → List ℕ → ℕ
body_place z s = decide (frame_rules z s) (λ refusal. 0) 4

-- R28, 6: the slot, n, the objects and their order in an end record
abbrev pub end_right : Size → List ℕ → Bool
end_right z b = ltb (byte_at b 4) z.slots && (ltb 0 (byte_at b 5) && rising_from z.objects 0 (entries_of (drop 6 b)))

-- and the zero byte of a call
abbrev pub content_right : Size → Kind → List ℕ → Bool
content_right z Fresh b = true
content_right z Start b = true
content_right z Call b = eqb (byte_at b 3) 0
content_right z Release b = true
content_right z (End rollback) b = true
content_right z (Ended rollback) b = end_right z b

-- R28, 5 and 6: the length that the kind and n ask for, and the content
abbrev pub body_rules : Size → Kind → List ℕ → List Rule
body_rules z k b =
    BadRecord when not (eqb (length b) (body_length z k b))
    ∷ BadRecord when not (content_right z k b)
    ∷ []

-- a record by its fields, the place of its list and the bytes that it takes, or the refusal
abbrev pub Reading : Type 0
Reading = Result Record Refusal

abbrev pub read_as : Fields → ℕ → ℕ → Reading
read_as fields list taken = Ok (record { fields = fields; list = list; taken = taken })

abbrev pub body_reading : Size → Kind → List ℕ → Reading
body_reading z k b = decide (body_rules z k b) Err (read_as (fields_of k b) (list_place k) (4 + length b))

-- R28, 4: a kind that is none of the table
abbrev pub reading_of : Size → Option Kind → List ℕ → Reading
reading_of z (Some k) b = body_reading z k b
reading_of z None b = Err BadRecord

abbrev pub reading : Size → List ℕ → Reading
reading z s = decide (frame_rules z s) Err (reading_of z (kind_of (kind_field s)) (body z s))

-- R30: the list that stands beside the fields, and its place; where the reading is refused, an empty part
abbrev pub list_in : Reading → List ℕ → List ℕ
list_in (Ok read) s = take (read.taken - read.list) (drop read.list s)
list_in (Err refusal) s = []

abbrev pub listing : Size → List ℕ → List ℕ
listing z s = list_in (reading z s) s

abbrev pub list_at : Reading → ℕ
list_at (Ok read) = read.list
list_at (Err refusal) = 0

-- R31: what an event as bytes is refused by; a record that is none is refused as one of a kind not wanted
abbrev pub refusal_of : Reading → Refusal
refusal_of (Ok read) = BadRecord
refusal_of (Err refusal) = refusal
