-- What else holds after every run from fresh, with a first version.
use Rattle.record_layout.specs.Reading.{read_as, reading, listing}
use Rattle.std.specs.Prelude.{ℕ, zero, suc, ◌+◌, ◌*◌, ◌%◌, ◌<◌, ◌≤◌, Bool, true, false, ◌&&◌, List, [], ◌∷◌, ◌++◌, map, ◌≡◌, length, Some, Ok}
use Rattle.answers.specs.Numbers.{number_of}
use Rattle.answers.specs.Order.{pick}
use Rattle.answers.specs.declared.Refusal.TheVariants.{Released, Wait}
use Rattle.counters.specs.Sizes.{Size}
use Rattle.counters.specs.Versions.{turnover, difference, unwrapped_turn}
use Rattle.counters.specs.declared.Turn.{Turn}
use Rattle.counters.specs.declared.Comparison.TheVariants.{A, B}
use Rattle.record_layout.specs.Declarations.{names}
use Rattle.record_layout.specs.Entries.{Entry, entries_of}
use Rattle.objects.specs.Places.{no_pair, says_released, says_wait}
use Rattle.objects.specs.declared.Object.{Object}
use Rattle.objects.specs.declared.Pair.{Pair}
use Rattle.record_order.specs.CameFirst.{came_first}
use Rattle.rules.specs.Tables.{State, object_at, live_at, pair_at}
use Rattle.rules.specs.Walks.{join_below}
use Rattle.rules.specs.Effects.{end_fields}
use Rattle.rules.specs.Steps.{release_step, end_step}
use Rattle.runs.specs.Histories.{History, Transaction, is_live, lives_in}
use Rattle.runs.specs.Runs.{Run}

-- a slot is live where the history has a live transaction of it, and then it has one
abbrev pub count_live : ℕ → History → ℕ
count_live s [] = 0
count_live s (x ∷ xs) = pick (lives_in s x) 1 0 + count_live s xs

abbrev pub LiveOnce : Run → Type 0
LiveOnce run = (s : ℕ) → count_live s run.history ≡ pick (live_at run.tables s) 1 0

-- the live transactions that declared an object, in start order
abbrev pub live_declarers : ℕ → History → History
live_declarers o [] = []
live_declarers o (x ∷ xs) = pick (is_live x.status && names x.declarations o) (x ∷ []) [] ++ live_declarers o xs

-- what stands at place 0, 1, .. of so many
abbrev pub numbered : {A : Type 0} → ℕ → (ℕ → A) → List A
numbered zero at = []
numbered (suc count) at = at 0 ∷ numbered count (λ k. at (suc k))

-- the number that a release is told by whose turn it is
abbrev pub told_of : Turn → ℕ
told_of turn = pick (says_released turn) (number_of Released) (pick (says_wait turn) (number_of Wait) 0)

-- how many versions of an object are live, and how many of these have been let go
abbrev pub live_count : Object → ℕ
live_count object = difference object.global.0 object.terminal.0

abbrev pub let_go_count : Object → ℕ
let_go_count object = difference object.local.0 object.terminal.0

-- at most as many versions of an object are live as there are slots; the live declarers have them in start order, and of these the ones
-- let go are told Released, the next has its turn, and all others are told Wait
pub record Between (z : Size) (run : Run) (o : ℕ) : Type 0 where
  pub wide : live_count (object_at run.tables o) ≤ z.slots
  pub local : let_go_count (object_at run.tables o) ≤ live_count (object_at run.tables o)
  pub versions : map (λ x. (pair_at z run.tables x.slot o).private.0) (live_declarers o run.history)
      ≡ numbered (live_count (object_at run.tables o)) (λ k. ((object_at run.tables o).terminal.0 + suc k) % turnover)
  pub turns : map (λ x. (release_step z run.tables x.slot o).reply.number) (live_declarers o run.history)
      ≡ numbered (live_count (object_at run.tables o)) (λ k. told_of (unwrapped_turn (suc k) (let_go_count (object_at run.tables o))))

-- R5: the pairs of a slot that is not live are zero, a spoiled pair is called, and a called pair is declared
pub record PairsRight (z : Size) (t : State) (s o : ℕ) : Type 0 where
  pub zero : live_at t s ≡ false → pair_at z t s o ≡ no_pair
  pub spoiled : (pair_at z t s o).spoiled ≡ true → (pair_at z t s o).called ≡ true
  pub called : (pair_at z t s o).called ≡ true → (pair_at z t s o).declared ≡ true

-- R27: the objects that a slot has declared, rising, with their private versions
abbrev pub declared_entry : ℕ → Pair → List Entry
declared_entry o pair = pick pair.declared (record { object = o; version = pair.private.0 } ∷ []) []

abbrev pub declared_entries : Size → ℕ → State → List Entry
declared_entries z s t = join_below z.objects (λ o. declared_entry o (pair_at z t s o))

-- R27: what an end writes reads as that end, with its tick of 32 bits, and takes 10 bytes and five for each object
pub record ReadsBack (z : Size) (t : State) (rollback : Bool) (s tick : ℕ) (bytes : List ℕ) : Type 0 where
  pub record_is : reading z bytes ≡ read_as (end_fields rollback (tick % turnover) s) 10 (10 + 5 * length (declared_entries z s t))
  pub entries : entries_of (listing z bytes) ≡ declared_entries z s t

abbrev pub EndsReadBack : Size → State → Type 0
EndsReadBack z t = (rollback : Bool) (s tick : ℕ) (buffer : List ℕ)
    → (end_step z rollback t s tick buffer).reply.number ≡ 0 → ReadsBack z t rollback s tick (end_step z rollback t s tick buffer).buffer

-- how many of these transactions declared an object, and so the version of the next one that does, counted without wrapping
abbrev pub declarers : ℕ → History → ℕ
declarers o [] = 0
declarers o (x ∷ xs) = pick (names x.declarations o) 1 0 + declarers o xs

abbrev pub unwrapped : ℕ → ℕ → History → ℕ
unwrapped first o before = first + (declarers o before + 1)

-- two ended transactions of one run, and the smallest object that both list
pub record TwoEnded (history : History) (o : ℕ) : Type 0 where
  pub before : History
  pub earlier : Transaction
  pub between : History
  pub later : Transaction
  pub behind : History
  pub all : history ≡ before ++ earlier ∷ (between ++ later ∷ behind)
  pub earlier_ended : is_live earlier.status ≡ false
  pub later_ended : is_live later.status ≡ false
  pub earlier_lists : names earlier.declarations o ≡ true
  pub later_lists : names later.declarations o ≡ true
  pub smallest : (q : ℕ) → q < o → names earlier.declarations q && names later.declarations q ≡ false

-- R37: which came first is the start order, where the versions of that object are less than half the turnover apart
abbrev pub TrueOrder : Size → ℕ → History → Type 0
TrueOrder z first history = (o : ℕ) (two : TwoEnded history o)
    → unwrapped first o (two.before ++ two.earlier ∷ two.between) < unwrapped first o two.before + 2147483648
    → (came_first z two.earlier.written two.later.written ≡ Ok (Some A)) × (came_first z two.later.written two.earlier.written ≡ Ok (Some B))

pub record Companions (z : Size) (first : ℕ) (run : Run) : Type 0 where
  pub live_once : LiveOnce run
  pub between : (o : ℕ) → o < z.objects → Between z run o
  pub pairs_right : (s o : ℕ) → s < z.slots → o < z.objects → PairsRight z run.tables s o
  pub ends_read_back : EndsReadBack z run.tables
  pub true_order : TrueOrder z first run.history
