-- A small run from W's fresh tables, computed: the history, the lone run and the words as definitions give them. Slot 0 spends and adds, slot 1 reads what slot 0
-- let go early, slot 2 is rolled back; a refused call and a refused commit leave no trace.
use Prim.Native.Nat.{ℕ}
use mathlib.Core.List.{List, [], ◌∷◌, map}
use mathlib.Core.Path.{◌≡◌, refl}
use lib.ListN.{replicate, set}
use Rattle.counters.specs.Sizes.{base}
use Rattle.record_layout.specs.Declarations.{declarations_of}
use Rattle.rules.specs.Events.{Handed}
use Rattle.runs.specs.Histories.{History, Call, Status, Committed, RolledBack, Transaction}
use Rattle.runs.specs.LoneRun.{committed_calls, lone_answers, lone_words}
use Rattle.runs.specs.Runs.{Run, run_of}
use Rattle.rules.specs.SessionW.{start, call, read, add, spend, commit, rollback, first, words}
use Rattle.rules.specs.Walks.{any_below, each_below, join_below}

abbrev events : List Handed
events =
    start 0 (3 ∷ 2 ∷ [])
    ∷ start 1 (3 ∷ 0 ∷ [])
    ∷ call 1 3 read 0
    ∷ call 0 3 spend 40
    ∷ call 0 3 add 5
    ∷ call 1 3 read 0
    ∷ commit 1 1
    ∷ start 2 (3 ∷ 0 ∷ 5 ∷ 0 ∷ [])
    ∷ call 2 5 add 7
    ∷ commit 0 2
    ∷ commit 1 3
    ∷ rollback 2 4
    ∷ []

-- slot, list, calls, status and the first bytes of the record of each transaction
abbrev ended : ℕ → List ℕ → List Call → Status → List ℕ → Transaction
ended slot list calls status written = record { slot = slot; declarations = declarations_of list; calls = calls; status = status; written = written }

abbrev called : ℕ → ℕ → ℕ → ℕ → Call
called object kind argument answer = record { object = object; kind = kind; argument = argument; answer = answer }

abbrev expected : History
expected =
    ended 0 (3 ∷ 2 ∷ []) (called 3 spend 40 1 ∷ called 3 add 5 65 ∷ []) Committed (11 ∷ 0 ∷ 1 ∷ 2 ∷ 2 ∷ 0 ∷ 0 ∷ 0 ∷ 0 ∷ 1 ∷ 3 ∷ 0 ∷ 0 ∷ 0 ∷ 0 ∷ [])
    ∷ ended 1 (3 ∷ 0 ∷ []) (called 3 read 0 65 ∷ []) Committed (11 ∷ 0 ∷ 1 ∷ 2 ∷ 3 ∷ 0 ∷ 0 ∷ 0 ∷ 1 ∷ 1 ∷ 3 ∷ 1 ∷ 0 ∷ 0 ∷ 0 ∷ [])
    ∷ ended 2 (3 ∷ 0 ∷ 5 ∷ 0 ∷ []) (called 5 add 7 7 ∷ []) RolledBack
    (16 ∷ 0 ∷ 2 ∷ 2 ∷ 4 ∷ 0 ∷ 0 ∷ 0 ∷ 2 ∷ 2 ∷ 3 ∷ 2 ∷ 0 ∷ 0 ∷ 0 ∷ 5 ∷ 0 ∷ 0 ∷ 0 ∷ 0 ∷ [])
    ∷ []

-- the history, the answers of the lone run and its words, and the words of the tables
record Shown : Type 0 where
  history : History
  answers : List ℕ
  alone : List ℕ
  words : List ℕ

abbrev shown : Run → Shown
shown run =
    record {
      history = run.history;
      answers = lone_answers words (committed_calls run.history);
      alone = lone_words words (committed_calls run.history);
      words = map (λ object. object.word) run.tables.objects;
    }

pub small_run : shown (run_of base words first events)
    ≡ record { history = expected; answers = 1 ∷ 65 ∷ 65 ∷ []; alone = set (replicate 24 0) 3 65; words = set (replicate 24 0) 3 65 }
unfolding any_below each_below join_below
small_run = refl
