-- A run: what is handed in one after the other, refused or not, from fresh tables; and the history that it leaves.
use Rattle.std.specs.Prelude.{ℕ, ◌≤◌, List, [], ◌∷◌}
use Rattle.counters.specs.Sizes.{Size}
use Rattle.rules.specs.Tables.{State, fresh_tables}
use Rattle.rules.specs.Steps.{Outcome}
use Rattle.rules.specs.Events.{Handed, outcome_of}
use Rattle.runs.specs.Histories.{History, noted}

-- sizes whose slot and object numbers are bytes
pub record Within (z : Size) : Type 0 where
  pub slots : z.slots ≤ 256
  pub objects : z.objects ≤ 256

pub record Run : Type 0 where
  pub tables : State
  pub history : History

abbrev pub fresh_run : Size → List ℕ → ℕ → Run
fresh_run z words first = record { tables = fresh_tables z words first; history = [] }

-- one step more
abbrev pub stepped : Handed → Outcome → History → Run
stepped handed outcome history = record { tables = outcome.tables; history = noted handed outcome.reply outcome.buffer history }

abbrev pub after : Size → Run → Handed → Run
after z run handed = stepped handed (outcome_of z run.tables handed) run.history

abbrev pub run_from : Size → Run → List Handed → Run
run_from z run [] = run
run_from z run (handed ∷ rest) = run_from z (after z run handed) rest

abbrev pub run_of : Size → List ℕ → ℕ → List Handed → Run
run_of z words first all = run_from z (fresh_run z words first) all
