-- R39: the bench from stage to stage, a record at each, and the whole program from the bytes of its input to the bytes of its output.
use Rattle.std.specs.Prelude.{ℕ, zero, suc, ◌+◌, ◌%◌, Bool, true, false, not, List, [], ◌++◌, length, drop, replicate}
use Rattle.answers.specs.Order.{pick}
use Rattle.counters.specs.Sizes.{Size, base}
use Rattle.rules.specs.Tables.{State, fresh_tables}
use Rattle.bench_lines.specs.Lines.{line_of}
use Rattle.bench_records.specs.Records.{Answering, first_step, bench_step}

-- how the bench stands between two records: the tables, whether the first record was read, the next event's number, whether it has stopped
pub record Stage : Type 0 where
  pub tables : State
  pub begun : Bool
  pub event : ℕ
  pub stopped : Bool

abbrev pub at_first : Size → Stage
at_first z = record { tables = fresh_tables z (replicate z.objects 0) 0; begun = false; event = 0; stopped = false }

-- R41, R42: what the record in front of the bytes gives
abbrev pub answer_at : Size → Stage → List ℕ → Answering
answer_at z stage bytes = pick stage.begun (bench_step z stage.tables bytes) (first_step z bytes)

-- R40: its line, where it has one
abbrev pub printed_for : Stage → Answering → List ℕ
printed_for stage here = pick here.prints (line_of stage.event here.reply) []

-- the stage behind it; an event's number has 64 bits
abbrev pub stage_behind : Stage → Answering → Stage
stage_behind stage here =
    record { tables = here.tables; begun = true; event = (stage.event + 1) % 18446744073709551616; stopped = here.stops }

-- what comes of records one after the other: the stage behind them, the bytes that they take, their lines
pub record Playing : Type 0 where
  pub stage : Stage
  pub taken : ℕ
  pub lines : List ℕ

abbrev pub not_played : Stage → Playing
not_played stage = record { stage = stage; taken = 0; lines = [] }

abbrev pub played_before : ℕ → List ℕ → Playing → Playing
played_before taken line rest = record { stage = rest.stage; taken = taken + rest.taken; lines = line ++ rest.lines }

-- at most so many records, as long as a test of the stage, the bytes left and the bytes printed so far says so
unfoldable pub played_while : Size → (Stage → List ℕ → ℕ → Bool) → ℕ → Stage → List ℕ → ℕ → Playing
played_while z goes zero stage bytes used = not_played stage
played_while z goes (suc most) stage bytes used =
    let here : Answering = answer_at z stage bytes in
    let line : List ℕ = printed_for stage here in
    pick (goes stage bytes used)
    (played_before here.taken line (played_while z goes most (stage_behind stage here) (drop here.taken bytes) (used + length line)))
    (not_played stage)

-- all that the test lets through: each record that does not stop the program takes bytes, so there are no more turns than this
abbrev pub all_played : (Stage → List ℕ → ℕ → Bool) → Stage → List ℕ → ℕ → Playing
all_played goes stage bytes used = played_while base goes (length bytes + 1) stage bytes used

-- R43: up to the end
abbrev pub until_stopped : Stage → List ℕ → ℕ → Bool
until_stopped stage bytes used = not stage.stopped

abbrev pub lines_from : Stage → List ℕ → List ℕ
lines_from stage bytes = (all_played until_stopped stage bytes 0).lines

abbrev pub bench_output : List ℕ → List ℕ
bench_output bytes = lines_from (at_first base) bytes
