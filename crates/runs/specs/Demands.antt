-- What is asked of every run from fresh with these words. The sizes are any within `Within`; the pump is `base`.
use Rattle.std.specs.Prelude.{ℕ, ◌+◌, ◌≤◌, Bool, true, false, ◌||◌, List, [], ◌∷◌, ◌++◌, map, ◌≢◌, ◌≡◌, length, eqb}
use Rattle.answers.specs.Numbers.{number_of}
use Rattle.answers.specs.declared.Refusal.TheVariants.{Wait}
use Rattle.counters.specs.Sizes.{Size}
use Rattle.record_layout.specs.Kinds.{body_limit}
use Rattle.record_layout.specs.declared.fields.Event.{Event}
use Rattle.rules.specs.Tables.{State, live_at}
use Rattle.rules.specs.Refusing.{doomed}
use Rattle.rules.specs.Steps.{end_step, event_step}
use Rattle.runs.specs.Histories.{History, Transaction, is_live, is_rolled_back}
use Rattle.runs.specs.LoneRun.{committed_calls, lone_answers, lone_words}
use Rattle.runs.specs.Runs.{Run}

-- the lone run gives every answer that the committed transactions gave
abbrev pub AnswersAlone : List ℕ → Run → Type 0
AnswersAlone words run = lone_answers words (committed_calls run.history) ≡ map (λ call. call.answer) (committed_calls run.history)

-- and the words of the tables, where no slot is live
abbrev pub WordsAlone : List ℕ → Run → Type 0
WordsAlone words run =
    ((s : ℕ) → live_at run.tables s ≡ false)
    → lone_words words (committed_calls run.history) ≡ map (λ object. object.word) run.tables.objects

-- the earliest live transaction
abbrev pub any_live : History → Bool
any_live [] = false
any_live (x ∷ xs) = is_live x.status || any_live xs

pub record Earliest (history : History) (x : Transaction) : Type 0 where
  pub before : History
  pub behind : History
  pub all : history ≡ before ++ x ∷ behind
  pub live : is_live x.status ≡ true
  pub first : any_live before ≡ false

-- whether an event is of a slot
abbrev pub of_slot : ℕ → Event → Bool
of_slot s (Event.Start slot) = eqb slot.0 s
of_slot s (Event.Call slot object kind argument) = eqb slot.0 s
of_slot s (Event.Release slot object) = eqb slot.0 s
of_slot s (Event.End slot tick rollback) = eqb slot.0 s

-- R23: room for every record of an end, a frame and the longest body
abbrev pub room_for_end : Size → ℕ
room_for_end z = 4 + body_limit z

-- no event of its slot is told to wait; with room its rollback is accepted, and its commit unless it is doomed
pub record Served (z : Size) (t : State) (s : ℕ) : Type 0 where
  pub never_waits : (event : Event) (list buffer : List ℕ) → of_slot s event ≡ true → (event_step z t event list buffer).reply.number ≢ number_of Wait
  pub rolls_back : (tick : ℕ) (buffer : List ℕ) → room_for_end z ≤ length buffer → (end_step z true t s tick buffer).reply.number ≡ 0
  pub commits : (tick : ℕ) (buffer : List ℕ) → room_for_end z ≤ length buffer → doomed z t s ≡ false → (end_step z false t s tick buffer).reply.number ≡ 0

-- no slot is doomed before a rollback is accepted
abbrev pub any_rolled_back : History → Bool
any_rolled_back [] = false
any_rolled_back (x ∷ xs) = is_rolled_back x.status || any_rolled_back xs

abbrev pub NoneDoomed : Size → Run → Type 0
NoneDoomed z run = any_rolled_back run.history ≡ false → (s : ℕ) → doomed z run.tables s ≡ false

pub record Demands (z : Size) (words : List ℕ) (run : Run) : Type 0 where
  pub answers_alone : AnswersAlone words run
  pub words_alone : WordsAlone words run
  pub earliest_served : (x : Transaction) → Earliest run.history x → Served z run.tables x.slot
  pub none_doomed : NoneDoomed z run
