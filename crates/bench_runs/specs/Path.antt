-- The bench's own path: from the fresh record that its input begins with, the events that it hands on, turn by turn, and what it leaves.
use Rattle.record_layout.specs.Reading.{read_as, reading, listing}
use Rattle.std.specs.Prelude.{ℕ, zero, suc, ◌+◌, ◌%◌, Bool, not, ◌&&◌, List, [], ◌∷◌, ◌++◌, map, ◌≡◌, ltb, length, drop}
use Rattle.answers.specs.declared.Reply.{Reply}
use Rattle.answers.specs.Order.{pick}
use Rattle.counters.specs.Sizes.{base}
use Rattle.record_layout.specs.declared.fields.Fields.{Fields}
use Rattle.rules.specs.Tables.{State}
use Rattle.rules.specs.Events.{Handed}
use Rattle.runs.specs.Runs.{Run, run_of}
use Rattle.code_runs.specs.Chains.{outcomes_from, handed_of}
use Rattle.bench_lines.specs.Lines.{line_of}
use Rattle.bench_records.specs.Records.{Answering, words_of, end_buffer}
use Rattle.bench_play.specs.Bench.{Stage, at_first, answer_at, stage_behind, Playing, played_while, until_stopped}

-- where the bench stands: its stage, and the bytes that are left
pub record Place : Type 0 where
  pub stage : Stage
  pub left : List ℕ

-- where it stands behind the record in front of them
abbrev pub behind : Place → Place
behind place =
    let here : Answering = answer_at base place.stage place.left in
    record { stage = stage_behind place.stage here; left = drop here.taken place.left }

-- the end of the input hands on no event, and a bench that has stopped does not either
abbrev pub hands_on : Place → Bool
hands_on place = not place.stage.stopped && ltb 0 (length place.left)

-- the places that do, in at most so many turns
abbrev pub places_from : ℕ → Place → List Place
places_from zero place = []
places_from (suc turns) place = pick (hands_on place) (place ∷ places_from turns (behind place)) []

-- the event there is the record in front of the bytes left, lent the buffer for ends
abbrev pub event_at : Place → Handed
event_at place = handed_of (record { bytes = place.left; buffer = end_buffer })

-- and the bench's reply to it
abbrev pub reply_at : Place → Reply
reply_at place = (answer_at base place.stage place.left).reply

-- the same in an input, behind its first record
abbrev pub places_in : ℕ → List ℕ → List Place
places_in turns bytes = places_from turns (behind (record { stage = at_first base; left = bytes }))

abbrev pub events_in : ℕ → List ℕ → List Handed
events_in turns bytes = map event_at (places_in turns bytes)

abbrev pub replies_in : ℕ → List ℕ → List Reply
replies_in turns bytes = map reply_at (places_in turns bytes)

-- the first record and so many turns behind it, as the bench plays them: with as many turns as bytes that is all it plays
abbrev pub played_in : ℕ → List ℕ → Playing
played_in turns bytes = played_while base until_stopped (turns + 1) (at_first base) bytes 0

-- R41: the input begins with a fresh record of these words and this first version
pub record Begins (bytes words : List ℕ) (first : ℕ) : Type 0 where
  pub at : ℕ
  pub taken : ℕ
  pub fresh : reading base bytes ≡ read_as (Fields.Fresh (record { 0 = first })) at taken
  pub words_are : words_of base.objects (listing base bytes) ≡ words

-- what the bench leaves: its own tables, and the history of the events that it handed on
abbrev pub bench_run : List ℕ → ℕ → ℕ → List ℕ → Run
bench_run words first turns bytes =
    record { tables = (played_in turns bytes).stage.tables; history = (run_of base words first (events_in turns bytes)).history }

-- the replies of the rules' steps, one after the other
abbrev pub replies_from : State → List Handed → List Reply
replies_from t events = map (λ outcome. outcome.reply) (outcomes_from base t events)

-- R40: the lines of replies, one after the other; an event's number has 64 bits
abbrev pub lines_of : ℕ → List Reply → List ℕ
lines_of number [] = []
lines_of number (reply ∷ rest) = line_of number reply ++ lines_of ((number + 1) % 18446744073709551616) rest
