-- What a function leaves in the lists that it is lent, by the tables that they stand for.
use Rattle.std.specs.Prelude.{ℕ, Bool, ◌&&◌, List, ◌≡◌, length}
use Rattle.answers.specs.Numbers.{reply_of, Answer}
use Rattle.answers.specs.Order.{pick}
use Rattle.counters.specs.Sizes.{Size}
use Rattle.objects.specs.Places.{spoiled_pair}
use Rattle.rules.specs.Tables.{State, live_at, pair_at, with_pair}
use Rattle.rules.specs.Steps.{Stepping, Outcome}
use Rattle.tables.specs.Places.{words_long, marks_long, Fits}
use Rattle.tables.specs.Views.{view}

-- what a function makes of the lists that it is lent, by what becomes of the tables: of all three, of the words alone, of the marks alone
abbrev pub Become : Size → List ℕ → List ℕ → List Bool → List ℕ → List ℕ → List Bool → (State → State) → Type 0
Become z w b k w' b' k' change = Fits z w' b' k' × (view z w' b' k' ≡ change (view z w b k))

abbrev pub WordsBecome : Size → List ℕ → List ℕ → (State → State) → Type 0
WordsBecome z w w' change = (length w' ≡ words_long z) × ((b : List ℕ) (k : List Bool) → view z w' b k ≡ change (view z w b k))

abbrev pub MarksBecome : Size → List Bool → List Bool → (State → State) → Type 0
MarksBecome z k k' change = (length k' ≡ marks_long z) × ((w b : List ℕ) → view z w b k' ≡ change (view z w b k))

-- what a step leaves and answers, by the rules' step
abbrev pub Steps : Size → List ℕ → List ℕ → List Bool → Answer → Stepping → Type 0
Steps z w b k answer stepping = Fits z w b k × (record { tables = view z w b k; reply = reply_of answer } ≡ stepping)

-- the same with the buffer that was lent
abbrev pub Ends : Size → List ℕ → List ℕ → List Bool → Answer → List ℕ → Outcome → Type 0
Ends z w b k answer buffer outcome = Fits z w b k × (record { tables = view z w b k; reply = reply_of answer; buffer = buffer } ≡ outcome)

-- R17, and the slot that ends is spoiled with the others: a live slot that has called an object
abbrev pub spoil_caller : Size → ℕ → ℕ → State → State
spoil_caller z o r t = pick (live_at t r && (pair_at z t r o).called) (with_pair z t r o (spoiled_pair (pair_at z t r o))) t
