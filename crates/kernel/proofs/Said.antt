-- A number and a value say what the answer says.
use Prim.Native.Nat.{ℕ}
use mathlib.Core.List.{List}
use mathlib.Core.Logic.{◌⊎◌, inl, inr}
use mathlib.Core.Path.{◌≡◌, sym, ap, ◌∙◌}
use lib.ListN.{length}
use Rattle.answers.proofs.Deciding.{Accepts, OneHolds, decided}
use Rattle.answers.specs.Numbers.{reply_of, accepted, Answer}
use Rattle.answers.specs.Order.{Rule, decide}
use Rattle.answers.specs.declared.Reply.{Reply}
use Rattle.counters.specs.Sizes.{base}
use Rattle.record_layout.specs.Declarations.{declarations_of}
use Rattle.rules.specs.Tables.{State, live_at, pair_at, object_at}
use Rattle.rules.specs.Refusing.{start_rules, release_rules}
use Rattle.rules.specs.Effects.{start_effect, release_effect}
use Rattle.rules.specs.Steps.{Stepping, Outcome, unchanged, start_step, release_step}

reply_is : (answer : Answer) (number value : ℕ) → number ≡ (reply_of answer).number → value ≡ (reply_of answer).value
    → ◌≡◌ {A = Reply} (record { number = number; value = value }) (reply_of answer)
reply_is answer number value n v = λ i. record { number = n i; value = v i }

module _ (t : State) (answer : Answer) (number : ℕ) (says : number ≡ (reply_of answer).number) where
  pub said : (value : ℕ) (stepping : Stepping) → value ≡ (reply_of answer).value → record { tables = t; reply = reply_of answer } ≡ stepping
      → record { tables = t; reply = record { number = number; value = value } } ≡ stepping
  said value stepping v e = (λ i. record { tables = t; reply = reply_is answer number value says v i }) ∙ e

  pub said_with : (value : ℕ) (buffer : List ℕ) (outcome : Outcome) → value ≡ (reply_of answer).value
      → record { tables = t; reply = reply_of answer; buffer = buffer } ≡ outcome
      → record { tables = t; reply = record { number = number; value = value }; buffer = buffer } ≡ outcome
  said_with value buffer outcome v e = (λ i. record { tables = t; reply = reply_is answer number value says v i; buffer = buffer }) ∙ e

  -- a step whose value is always 0
  pub said_alone : (stepping : Stepping) → stepping.reply.value ≡ 0 → record { tables = t; reply = reply_of answer } ≡ stepping
      → record { tables = t; reply = record { number = number; value = 0 } } ≡ stepping
  said_alone stepping none e = said 0 stepping (sym none ∙ ap (λ (s : Stepping). s.reply.value) (sym e)) e

no_value : (rules : List Rule) (t u : State) → (decide rules (unchanged t) (record { tables = u; reply = accepted 0 })).reply.value ≡ 0
no_value rules t u = go (decided rules)
  where
    go : Accepts rules ⊎ OneHolds rules → (decide rules (unchanged t) (record { tables = u; reply = accepted 0 })).reply.value ≡ 0
    go (inl a) = ap (λ (s : Stepping). s.reply.value) (a.gives (unchanged t) (record { tables = u; reply = accepted 0 }))
    go (inr r) = ap (λ (s : Stepping). s.reply.value) (r.gives (unchanged t) (record { tables = u; reply = accepted 0 }))

pub start_value : (t : State) (s : ℕ) (list : List ℕ) → (start_step base t s list).reply.value ≡ 0
start_value t s list = no_value (start_rules base s (live_at t s) (length list) (declarations_of list)) t (start_effect base s (declarations_of list) t)

pub release_value : (t : State) (s o : ℕ) → (release_step base t s o).reply.value ≡ 0
release_value t s o = no_value (release_rules base s o (live_at t s) (pair_at base t s o) (object_at t o)) t (release_effect base s o t)

-- a start's number alone says what its answer says
pub start_said : (t after : State) (s : ℕ) (list : List ℕ) (answer : Answer) (number : ℕ) → number ≡ (reply_of answer).number
    → record { tables = after; reply = reply_of answer } ≡ start_step base t s list
    → record { tables = after; reply = record { number = number; value = 0 } } ≡ start_step base t s list
start_said t after s list answer number says e =
    let none : (reply_of answer).value ≡ 0 = ap (λ (x : Stepping). x.reply.value) e ∙ start_value t s list in
    (λ i. record { tables = after; reply = record { number = says i; value = sym none i } }) ∙ e
