-- R39 to R43, record by record: what the first record gives, and what each further one gives.
use Rattle.record_layout.specs.Reading.{reading, listing, Reading}
use Rattle.std.specs.Prelude.{ℕ, zero, suc, Bool, true, false, not, List, [], ◌∷◌, length, drop, replicate, ltb, Err, Ok, is_some}
use Rattle.answers.specs.Numbers.{reply_of, accepted, refused}
use Rattle.answers.specs.declared.Reply.{Reply}
use Rattle.std.specs.Option.{unwrap_or, option_map}
use Rattle.answers.specs.declared.Refusal.{Refusal}
use Rattle.answers.specs.declared.Refusal.TheVariants.{BadRecord}
use Rattle.counters.specs.Sizes.{Size}
use Rattle.counters.specs.declared.Version.{Version}
use Rattle.record_layout.specs.Bytes.{word_of}
use Rattle.record_layout.specs.declared.fields.Fields.{Fields}
use Rattle.rules.specs.Tables.{State, fresh_tables}
use Rattle.rules.specs.Steps.{Outcome, read_step}
use Rattle.bench_records.specs.declared.Answered.{Answered}

-- what a record gives: the tables, the reply, whether it prints a line, whether it stops the program, and the bytes that it takes
pub record Answering : Type 0 where
  pub tables : State
  pub reply : Reply
  pub prints : Bool
  pub stops : Bool
  pub taken : ℕ

-- what is seen of what the code gives; it keeps no reply of a record that prints no line
abbrev pub answered : Reply → State → Answered → Answering
answered unprinted tables r =
    record { tables = tables; reply = unwrap_or (option_map reply_of r.line) unprinted; prints = is_some r.line; stops = r.stops; taken = r.taken }

-- the first so many words of a list
unfoldable pub words_of : ℕ → List ℕ → List ℕ
words_of zero list = []
words_of (suc k) list = word_of list ∷ words_of k (drop 4 list)

-- R41: the first record is fresh and prints nothing
abbrev pub begins_with : Size → Version → List ℕ → ℕ → Answering
begins_with z first list taken =
    record { tables = fresh_tables z (words_of z.objects list) first.0; reply = accepted 0; prints = false; stops = false; taken = taken }

-- where it is not, its line is the only one: there are no tables to go on with, and zeros stand for them
abbrev pub not_fresh : Size → Refusal → Answering
not_fresh z refusal = record { tables = fresh_tables z (replicate z.objects 0) 0; reply = refused refusal; prints = true; stops = true; taken = 0 }

abbrev pub first_fields : Size → Fields → List ℕ → ℕ → Answering
first_fields z (Fields.Fresh first) list taken = begins_with z first list taken
first_fields z (Fields.Event event) list taken = not_fresh z BadRecord
first_fields z (Fields.Ended tick slot rollback) list taken = not_fresh z BadRecord

abbrev pub first_read : Size → Reading → List ℕ → Answering
first_read z (Ok read) list = first_fields z read.fields list read.taken
first_read z (Err refusal) list = not_fresh z refusal

abbrev pub first_step : Size → List ℕ → Answering
first_step z bytes = first_read z (reading z bytes) (listing z bytes)

-- R43: all but an event stops the program
abbrev pub carries_event : Fields → Bool
carries_event (Fields.Fresh first) = false
carries_event (Fields.Event event) = true
carries_event (Fields.Ended tick slot rollback) = false

abbrev pub stops_at : Reading → Bool
stops_at (Ok read) = not (carries_event read.fields)
stops_at (Err refusal) = true

-- no bytes are taken where there is no record
abbrev pub taken_by : Reading → ℕ
taken_by (Ok read) = read.taken
taken_by (Err refusal) = 0

-- R42: the buffer that each end is offered
abbrev pub end_buffer : List ℕ
end_buffer = replicate 130 0

-- a record behind the first, with what the event gives; the end of the input prints nothing
abbrev pub next_read : Size → State → Reading → List ℕ → Bool → Answering
next_read z t read list prints =
    let outcome : Outcome = read_step z t read list end_buffer in
    record { tables = outcome.tables; reply = outcome.reply; prints = prints; stops = stops_at read; taken = taken_by read }

abbrev pub bench_step : Size → State → List ℕ → Answering
bench_step z t bytes = next_read z t (reading z bytes) (listing z bytes) (ltb 0 (length bytes))
