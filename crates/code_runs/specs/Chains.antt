-- A chain of the machine's steps over what is handed in, from its own fresh: each step goes in with the tables that the one before returned.
use Rattle.record_layout.specs.Reading.{reading, listing, Reading}
use Rattle.std.specs.Prelude.{ℕ, List, [], ◌∷◌, map, Err, Ok}
use Rattle.answers.specs.Numbers.{reply_of}
use Rattle.counters.specs.Sizes.{Size, base}
use Rattle.record_layout.specs.declared.fields.Fields.{Fields}
use Rattle.rules.specs.Tables.{State}
use Rattle.rules.specs.Steps.{Outcome}
use Rattle.rules.specs.Events.{Handed, outcome_of}
use Rattle.runs.specs.Histories.{History, noted}
use Rattle.runs.specs.Runs.{Run}
use Rattle.machine.specs.Views.{view, told_with}
use Rattle.machine.specs.declared.Tables.{Tables}
use Rattle.machine.specs.declared.Stepped.{Stepped}
use Rattle.events.specs.Promises.{FreshGives, StepGives, RecordGives}

-- what a step gave back: the tables and the answer, and the buffer that it was lent, as it stands afterwards
pub record Given : Type 0 where
  pub stepped : Stepped
  pub buffer : List ℕ

-- each step meets its promise on the tables that it was handed, and hands on those that it returned
abbrev pub Chained : Tables → List Handed → List Given → Type 0
Chained t [] [] = Unit {0}
Chained t [] (given ∷ rest) = ⊥
Chained t (handed ∷ events) [] = ⊥
Chained t (handed ∷ events) (given ∷ rest) =
    StepGives t handed.fields handed.list handed.buffer given.stepped given.buffer × Chained given.stepped.tables events rest

abbrev pub last_tables : Tables → List Given → Tables
last_tables t [] = t
last_tables t (given ∷ rest) = last_tables given.stepped.tables rest

-- the tables, the reply and the buffer of each step, as the rules see them
abbrev pub outcomes_given : List Given → List Outcome
outcomes_given given = map (λ one. told_with one.stepped one.buffer) given

-- the outcomes of the rules' steps, one after the other
abbrev pub outcomes_from : Size → State → List Handed → List Outcome
outcomes_from z t [] = []
outcomes_from z t (handed ∷ events) = outcome_of z t handed ∷ outcomes_from z (outcome_of z t handed).tables events

-- the history, made only from the events and what the code gave back
abbrev pub noted_from : History → List Handed → List Given → History
noted_from history [] given = history
noted_from history (handed ∷ events) [] = history
noted_from history (handed ∷ events) (given ∷ rest) =
    noted_from (noted handed (reply_of given.stepped.answer) given.buffer history) events rest

-- the code has run over these events: the fresh tables that it returned, and what each of its steps gave back
pub record CodeRuns (words : List ℕ) (first : ℕ) (events : List Handed) : Type 0 where
  pub fresh : Tables
  pub given : List Given
  pub begins : FreshGives first words fresh
  pub steps : Chained fresh events given

-- the tables and the history that it leaves
abbrev pub code_run : {words : List ℕ} {first : ℕ} {events : List Handed} → CodeRuns words first events → Run
code_run {events = events} code = record { tables = view (last_tables code.fresh code.given); history = noted_from [] events code.given }

-- an event as bytes: those of a record, and the buffer that it is lent
pub record HandedBytes : Type 0 where
  pub bytes : List ℕ
  pub buffer : List ℕ

-- the event that is read; bytes that are no record are refused as a fresh record is, which is no event
abbrev pub handed_read : Reading → List ℕ → List ℕ → Handed
handed_read (Ok read) list buffer = record { fields = read.fields; list = list; buffer = buffer }
handed_read (Err refusal) list buffer = record { fields = Fields.Fresh (record { 0 = 0 }); list = list; buffer = buffer }

abbrev pub handed_of : HandedBytes → Handed
handed_of handed = handed_read (reading base handed.bytes) (listing base handed.bytes) handed.buffer

-- the same chain by `step_record`
abbrev pub ChainedRecords : Tables → List HandedBytes → List Given → Type 0
ChainedRecords t [] [] = Unit {0}
ChainedRecords t [] (given ∷ rest) = ⊥
ChainedRecords t (handed ∷ records) [] = ⊥
ChainedRecords t (handed ∷ records) (given ∷ rest) =
    RecordGives t handed.bytes handed.buffer given.stepped given.buffer × ChainedRecords given.stepped.tables records rest
