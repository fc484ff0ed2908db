-- R11: a refusal has value 0, and leaves the tables and the buffer as they came.
use Rattle.record_layout.specs.Reading.{reading, listing, Reading}
use Rattle.std.specs.Prelude.{Err, Ok}
use Prim.Native.Nat.{ℕ}
use mathlib.Core.Bool.{Bool}
use mathlib.Core.List.{List}
use mathlib.Core.Logic.{◌⊎◌, inl, inr, ◌≢◌}
use mathlib.Core.Path.{◌≡◌, refl, ap, ◌∙◌}
use Rattle.answers.specs.Order.{Rule, decide}
use Rattle.answers.specs.declared.Refusal.{Refusal}
use Rattle.answers.specs.declared.Refusal.TheVariants.{BadRecord}
use Rattle.answers.proofs.Deciding.{Accepts, OneHolds, decided}
use Rattle.counters.specs.Sizes.{Size}
use Rattle.record_layout.specs.declared.fields.Event.{Event}
use Rattle.record_layout.specs.declared.fields.Fields.{Fields}
use Rattle.rules.specs.Tables.{State}
use Rattle.rules.specs.Steps.{unchanged, Stepping, Outcome, beside, start_step, call_step, release_step, end_step, event_step, fields_step, read_step, record_step}
use Rattle.rules.proofs.RulesOf.{rules_of_start, started, rules_of_call, called, rules_of_release, released, rules_of_end, ended}

-- value 0, and the tables as they came
pub record Unchanged (t : State) (stepping : Stepping) : Type 0 where
  pub value : stepping.reply.value ≡ 0
  pub tables : stepping.tables ≡ t

-- and the buffer as it came
pub record AllUnchanged (t : State) (lent : List ℕ) (outcome : Outcome) : Type 0 where
  pub value : outcome.reply.value ≡ 0
  pub tables : outcome.tables ≡ t
  pub buffer : outcome.buffer ≡ lent

refusal_changes_nothing : (t : State) (lent : List ℕ) (refusal : Refusal) → AllUnchanged t lent (beside lent (unchanged t refusal))
refusal_changes_nothing t lent refusal = record { value = refl; tables = refl; buffer = refl }

-- what every refusal has, all have whose number is not that of what is accepted
refusing : {A : Type 0} (P : A → Type 0) (number : A → ℕ) (rules : List Rule) (refused : Refusal → A) (accepted : A)
    → number accepted ≡ 0 → ((refusal : Refusal) → P (refused refusal))
    → number (decide rules refused accepted) ≢ 0 → P (decide rules refused accepted)
refusing P number rules refused accepted zero each other = by (decided rules)
  where
    by : Accepts rules ⊎ OneHolds rules → P (decide rules refused accepted)
    by (inl a) = absurd (other (ap number (a.gives refused accepted) ∙ zero))
    by (inr r) = rw (r.gives refused accepted) (each r.refusal)

refused_step : (t : State) (rules : List Rule) (done : Stepping) → done.reply.number ≡ 0 → (decide rules (unchanged t) done).reply.number ≢ 0
    → Unchanged t (decide rules (unchanged t) done)
refused_step t rules done zero =
    refusing (Unchanged t) (λ stepping. stepping.reply.number) rules (unchanged t) done zero (λ refusal. record { value = refl; tables = refl })

refused_beside : (t : State) (buffer : List ℕ) (stepping : Stepping) → (stepping.reply.number ≢ 0 → Unchanged t stepping)
    → stepping.reply.number ≢ 0 → AllUnchanged t buffer (beside buffer stepping)
refused_beside t buffer stepping refused other =
    let u : Unchanged t stepping = refused other in
    record { value = u.value; tables = u.tables; buffer = refl }

module _ (z : Size) (t : State) where
  -- a start, a call or a release that is refused
  pub start_refused : (s : ℕ) (list : List ℕ) → (start_step z t s list).reply.number ≢ 0 → Unchanged t (start_step z t s list)
  start_refused s list = refused_step t (rules_of_start z t s list) (started z t s list) refl

  pub call_refused : (s o kind argument : ℕ) → (call_step z t s o kind argument).reply.number ≢ 0 → Unchanged t (call_step z t s o kind argument)
  call_refused s o kind argument = refused_step t (rules_of_call z t s o kind) (called z t s o kind argument) refl

  pub release_refused : (s o : ℕ) → (release_step z t s o).reply.number ≢ 0 → Unchanged t (release_step z t s o)
  release_refused s o = refused_step t (rules_of_release z t s o) (released z t s o) refl

  -- a commit or a rollback that is refused
  pub end_refused : (rollback : Bool) (s tick : ℕ) (buffer : List ℕ)
      → (end_step z rollback t s tick buffer).reply.number ≢ 0 → AllUnchanged t buffer (end_step z rollback t s tick buffer)
  end_refused rollback s tick buffer =
      refusing (AllUnchanged t buffer) (λ outcome. outcome.reply.number) (rules_of_end z t rollback s tick buffer)
      (λ refusal. beside buffer (unchanged t refusal)) (ended z t rollback s tick buffer) refl (refusal_changes_nothing t buffer)

  -- any event that is refused, by itself and as the fields of a record
  pub event_refused : (event : Event) (list buffer : List ℕ)
      → (event_step z t event list buffer).reply.number ≢ 0 → AllUnchanged t buffer (event_step z t event list buffer)
  event_refused (Event.Start slot) list buffer other = refused_beside t buffer (start_step z t slot.0 list) (start_refused slot.0 list) other
  event_refused (Event.Call slot object kind argument) list buffer other =
      refused_beside t buffer (call_step z t slot.0 object.0 kind argument) (call_refused slot.0 object.0 kind argument) other
  event_refused (Event.Release slot object) list buffer other =
      refused_beside t buffer (release_step z t slot.0 object.0) (release_refused slot.0 object.0) other
  event_refused (Event.End slot tick rollback) list buffer other = end_refused rollback slot.0 tick buffer other

  pub fields_refused : (fields : Fields) (list buffer : List ℕ)
      → (fields_step z t fields list buffer).reply.number ≢ 0 → AllUnchanged t buffer (fields_step z t fields list buffer)
  fields_refused (Fields.Fresh first) list buffer other = refusal_changes_nothing t buffer BadRecord
  fields_refused (Fields.Event event) list buffer other = event_refused event list buffer other
  fields_refused (Fields.Ended tick slot rollback) list buffer other = refusal_changes_nothing t buffer BadRecord

  read_refused : (read : Reading) (list buffer : List ℕ)
      → (read_step z t read list buffer).reply.number ≢ 0 → AllUnchanged t buffer (read_step z t read list buffer)
  read_refused (Ok read) list buffer other = fields_refused read.fields list buffer other
  read_refused (Err refusal) list buffer other = refusal_changes_nothing t buffer refusal

  -- and any bytes of a record that are refused
  pub record_refused : (bytes buffer : List ℕ)
      → (record_step z t bytes buffer).reply.number ≢ 0 → AllUnchanged t buffer (record_step z t bytes buffer)
  record_refused bytes buffer other = read_refused (reading z bytes) (listing z bytes) buffer other
