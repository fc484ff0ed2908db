-- R11: the five steps. The first rule that holds refuses, with the tables and the buffer as they came; else the event has its effect.
use Rattle.record_layout.specs.Reading.{reading, listing, Reading}
use Rattle.std.specs.Prelude.{ℕ, Bool, List, ◌++◌, length, drop, ltb, Err, Ok}
use Rattle.answers.specs.Numbers.{accepted, refused}
use Rattle.answers.specs.declared.Reply.{Reply}
use Rattle.answers.specs.Order.{decide}
use Rattle.answers.specs.declared.Refusal.{Refusal}
use Rattle.answers.specs.declared.Refusal.TheVariants.{BadRecord}
use Rattle.counters.specs.Sizes.{Size}
use Rattle.record_layout.specs.Declarations.{Declaration, declarations_of}
use Rattle.record_layout.specs.declared.fields.Event.{Event}
use Rattle.record_layout.specs.declared.fields.Fields.{Fields}
use Rattle.kinds.specs.Kinds.{acted}
use Rattle.kinds.specs.declared.Acted.{Acted}
use Rattle.rules.specs.Tables.{State, object_at, live_at, pair_at}
use Rattle.rules.specs.Refusing.{doomed, unmet, start_rules, call_rules, release_rules, end_rules}
use Rattle.rules.specs.Effects.{start_effect, call_effect, release_effect, end_effect, end_record}

-- what comes back of an event that writes nothing: the new tables and the reply
pub record Stepping : Type 0 where
  pub tables : State
  pub reply : Reply

-- and of one that is lent a buffer: all of the buffer too
pub record Outcome : Type 0 where
  pub tables : State
  pub reply : Reply
  pub buffer : List ℕ

-- a refusal has value 0, and the tables stay
abbrev pub unchanged : State → Refusal → Stepping
unchanged t refusal = record { tables = t; reply = refused refusal }

-- an event that writes nothing leaves the buffer
abbrev pub beside : List ℕ → Stepping → Outcome
beside buffer stepping = record { tables = stepping.tables; reply = stepping.reply; buffer = buffer }

abbrev pub start_step : Size → State → ℕ → List ℕ → Stepping
start_step z t s list =
    let declarations : List Declaration = declarations_of list in
    decide (start_rules z s (live_at t s) (length list) declarations) (unchanged t) (record { tables = start_effect z s declarations t; reply = accepted 0 })

abbrev pub call_step : Size → State → ℕ → ℕ → ℕ → ℕ → Stepping
call_step z t s o kind argument =
    let act : Acted = acted kind (object_at t o).word argument in
    decide (call_rules z s o kind (live_at t s) (doomed z t s) (pair_at z t s o) (object_at t o)) (unchanged t)
    (record { tables = call_effect z s o act.word t; reply = accepted act.answer })

abbrev pub release_step : Size → State → ℕ → ℕ → Stepping
release_step z t s o =
    decide (release_rules z s o (live_at t s) (pair_at z t s o) (object_at t o)) (unchanged t)
    (record { tables = release_effect z s o t; reply = accepted 0 })

-- R16, R27: the record stands at the buffer's first byte, the value is its length, and the rest of the buffer stays
abbrev pub end_step : Size → Bool → State → ℕ → ℕ → List ℕ → Outcome
end_step z rollback t s tick buffer =
    let written : List ℕ = end_record z rollback s tick t in
    decide (end_rules z rollback s (live_at t s) (doomed z t s) (unmet z t s) (ltb (length buffer) (length written)))
    (λ refusal. beside buffer (unchanged t refusal))
    (record { tables = end_effect z rollback s t; reply = accepted (length written); buffer = written ++ drop (length written) buffer })

-- an event, with the list beside it
abbrev pub event_step : Size → State → Event → List ℕ → List ℕ → Outcome
event_step z t (Event.Start slot) list buffer = beside buffer (start_step z t slot.0 list)
event_step z t (Event.Call slot object kind argument) list buffer = beside buffer (call_step z t slot.0 object.0 kind argument)
event_step z t (Event.Release slot object) list buffer = beside buffer (release_step z t slot.0 object.0)
event_step z t (Event.End slot tick rollback) list buffer = end_step z rollback t slot.0 tick buffer

-- R18: the fields of a record; a fresh record and that of an end carry no event
abbrev pub fields_step : Size → State → Fields → List ℕ → List ℕ → Outcome
fields_step z t (Fields.Fresh first) list buffer = beside buffer (unchanged t BadRecord)
fields_step z t (Fields.Event event) list buffer = event_step z t event list buffer
fields_step z t (Fields.Ended tick slot rollback) list buffer = beside buffer (unchanged t BadRecord)

abbrev pub read_step : Size → State → Reading → List ℕ → List ℕ → Outcome
read_step z t (Ok read) list buffer = fields_step z t read.fields list buffer
read_step z t (Err refusal) list buffer = beside buffer (unchanged t refusal)

-- R31: an event as the bytes of a record
abbrev pub record_step : Size → State → List ℕ → List ℕ → Outcome
record_step z t bytes buffer = read_step z t (reading z bytes) (listing z bytes) buffer
