-- A chain of the machine's steps from its own fresh gives the rules' run, so what holds after every run holds of what the code returns.
use Rattle.record_layout.specs.Reading.{reading, listing, Reading}
use Rattle.std.specs.Prelude.{Err, Ok}
use Prim.Native.Nat.{ℕ, ◌<◌}
use mathlib.Core.List.{List, [], ◌∷◌, map}
use mathlib.Core.Path.{◌≡◌, refl, sym, ap, subst, ◌∙◌}
use lib.ListN.{length}
use Rattle.counters.specs.Sizes.{base}
use Rattle.counters.specs.Versions.{turnover}
use Rattle.record_read.proofs.Refusing.{only_bad_record}
use Rattle.rules.specs.Tables.{State}
use Rattle.rules.specs.Steps.{Outcome, unchanged, beside, read_step, record_step}
use Rattle.rules.specs.Events.{Handed, outcome_of}
use Rattle.runs.specs.Histories.{History}
use Rattle.runs.specs.Runs.{Run, stepped, run_from, run_of}
use Rattle.runs.specs.Demands.{Demands}
use Rattle.runs.specs.Companions.{Companions}
use Rattle.runs.proofs.EveryRun.{every_run_of_the_pump}
use Rattle.machine.specs.Views.{view}
use Rattle.events.specs.Promises.{FreshGives}
use Rattle.code_runs.specs.Chains.{Given, Chained, last_tables, outcomes_given, outcomes_from, noted_from, CodeRuns, code_run, HandedBytes, handed_read, handed_of, ChainedRecords}
use Rattle.machine.specs.declared.Tables.{Tables}

-- the tables and the history that a chain leaves are those of the rules' run
pub chained_run : (t : Tables) (history : History) (events : List Handed) (given : List Given) → Chained t events given
    → ◌≡◌ {A = Run} (record { tables = view (last_tables t given); history = noted_from history events given })
    (run_from base (record { tables = view t; history = history }) events)
chained_run t history [] [] chained = refl
chained_run t history [] (given ∷ rest) chained = absurd chained
chained_run t history (handed ∷ events) [] chained = absurd chained
chained_run t history (handed ∷ events) (given ∷ rest) chained =
    chained_run given.stepped.tables (noted_from history (handed ∷ []) (given ∷ [])) events rest chained.1
    ∙ ap (λ (outcome : Outcome). run_from base (stepped handed outcome history) events) chained.0

-- and the tables, the reply and the buffer of every step are those of the rules
pub chained_outcomes : (t : Tables) (events : List Handed) (given : List Given) → Chained t events given
    → outcomes_given given ≡ outcomes_from base (view t) events
chained_outcomes t [] [] chained = refl
chained_outcomes t [] (given ∷ rest) chained = absurd chained
chained_outcomes t (handed ∷ events) [] chained = absurd chained
chained_outcomes t (handed ∷ events) (given ∷ rest) chained =
    let behind = chained_outcomes given.stepped.tables events rest chained.1
    ∙ ap (λ (outcome : Outcome). outcomes_from base outcome.tables events) chained.0 in
    λ i. chained.0 i ∷ behind i

pub chain_is_run : (words : List ℕ) (first : ℕ) (events : List Handed) (code : CodeRuns words first events)
    → code_run code ≡ run_of base words first events
chain_is_run words first events code =
    chained_run code.fresh [] events code.given code.steps
    ∙ ap (λ (t : State). run_from base (record { tables = t; history = [] }) events) code.begins

-- what holds after every run of the rules holds of what the code leaves
pub carried : (words : List ℕ) (first : ℕ) (P : Run → Type 0) → ((events : List Handed) → P (run_of base words first events))
    → (events : List Handed) (code : CodeRuns words first events) → P (code_run code)
carried words first P holds events code = subst P (sym (chain_is_run words first events code)) (holds events)

-- so demands and companions do
pub every_run_of_the_code : (words : List ℕ) (first : ℕ) → length words ≡ 24 → first < turnover
    → (events : List Handed) (code : CodeRuns words first events)
    → Demands base words (code_run code) × Companions base first (code_run code)
every_run_of_the_code words first all small =
    carried words first (λ run. Demands base words run × Companions base first run) (every_run_of_the_pump words first all small)

pub record_is_event : (t : State) (handed : HandedBytes) → record_step base t handed.bytes handed.buffer ≡ outcome_of base t (handed_of handed)
record_is_event t handed = go (reading base handed.bytes) refl
  where
    go : (found : Reading) → reading base handed.bytes ≡ found
        → read_step base t found (listing base handed.bytes) handed.buffer
        ≡ outcome_of base t (handed_read found (listing base handed.bytes) handed.buffer)
    go (Ok read) e = refl
    go (Err refusal) e = ap (λ x. beside handed.buffer (unchanged t x)) (only_bad_record base handed.bytes refusal e)

pub chained_records : (t : Tables) (records : List HandedBytes) (given : List Given) → ChainedRecords t records given
    → Chained t (map handed_of records) given
chained_records t [] [] chained = tt
chained_records t [] (given ∷ rest) chained = absurd chained
chained_records t (handed ∷ records) [] chained = absurd chained
chained_records t (handed ∷ records) (given ∷ rest) chained =
    (chained.0 ∙ record_is_event (view t) handed, chained_records given.stepped.tables records rest chained.1)

-- so all of this holds of steps by bytes too
pub records_run : (words : List ℕ) (first : ℕ) (records : List HandedBytes) (fresh : Tables) (given : List Given)
    → FreshGives first words fresh → ChainedRecords fresh records given → CodeRuns words first (map handed_of records)
records_run words first records fresh given begins chained =
    record { fresh = fresh; given = given; begins = begins; steps = chained_records fresh records given chained }
