-- Every event keeps the invariant, accepted or refused.
use Prim.Native.Nat.{ℕ}
use mathlib.Core.Bool.{Bool, true, false}
use mathlib.Core.List.{List, ◌∷◌, ◌++◌}
use mathlib.Core.Path.{◌≡◌, refl, ap, subst}
use lib.Dec.{eqb}
use lib.ListN.{take}
use borrow.Author.Tests.{eqb-true, eqb-false}
use Rattle.counters.specs.Sizes.{Size}
use Rattle.record_layout.specs.declared.fields.Event.{Event}
use Rattle.record_layout.specs.declared.fields.Fields.{Fields}
use Rattle.kinds.specs.Kinds.{acted}
use Rattle.rules.specs.Tables.{State, object_at, live_at}
use Rattle.rules.specs.Steps.{Stepping, call_step, release_step, end_step, event_step, fields_step}
use Rattle.rules.specs.Events.{Handed, outcome_of}
use Rattle.runs.specs.Histories.{History, Transaction, Call, changed, with_call, with_end, extended, extended_by, status_of}
use Rattle.runs.specs.Companions.{count_live}
use Rattle.runs.specs.Runs.{Within, Run, after}
use Rattle.rules.proofs.Refused.{fields_refused}
use Rattle.rules.proofs.Exactly.{call_comes}
use Rattle.rules.proofs.Accepted.{call_accepted, release_accepted, end_accepted}
use Rattle.runs.proofs.Found.{Found, changed_found}
use Rattle.runs.proofs.Invariant.{Invariant}
use Rattle.runs.proofs.PairsHold.{found_of}
use Rattle.runs.proofs.AfterStart.{start_kept}
use Rattle.runs.proofs.AfterCall.{call_kept, release_kept}
use Rattle.runs.proofs.AfterEnd.{end_kept}

-- the answer of an accepted call is that of the kinds table
call_answers : (z : Size) (t : State) (s o kind argument : ℕ) → (call_step z t s o kind argument).reply.number ≡ 0
    → (call_step z t s o kind argument).reply.value ≡ (acted kind (object_at t o).word argument).answer
call_answers z t s o kind argument done = ap (λ (stepping : Stepping). stepping.reply.value) (call_comes z t s o kind argument done)

pub end_live : (z : Size) (t : State) (rollback : Bool) (s tick : ℕ) (buffer : List ℕ) → (end_step z rollback t s tick buffer).reply.number ≡ 0 → live_at t s ≡ true
end_live z t rollback s tick buffer done = (end_accepted z t rollback s tick buffer done).live

module _ (z : Size) (within : Within z) (words : List ℕ) (first : ℕ) (run : Run) (inv : Invariant z words first run) where
  abbrev t : State
  t = run.tables

  abbrev Kept : State → History → Type 0
  Kept tables history = Invariant z words first (record { tables = tables; history = history })

  -- an accepted call with the answer of the kinds table
  abbrev call_of : ℕ → ℕ → ℕ → Call
  call_of o kind argument = record { object = o; kind = kind; argument = argument; answer = (acted kind (object_at t o).word argument).answer }

  -- the record that the end of a slot writes
  abbrev written_by : Bool → ℕ → ℕ → List ℕ → List ℕ
  written_by rollback s tick buffer = take (end_step z rollback t s tick buffer).reply.value (end_step z rollback t s tick buffer).buffer

  -- what the live transaction of a slot keeps, the slot keeps
  module _ (s : ℕ) (f : Found s run.history) where
    abbrev with : Transaction → History
    with x = f.before ++ x ∷ f.behind

    split : Kept t (with f.own)
    split = subst (Kept t) f.all inv

    none_before : count_live f.own.slot f.before ≡ 0
    none_before = rw f.slot f.none_before

    none_behind : count_live f.own.slot f.behind ≡ 0
    none_behind = rw f.slot f.none_behind

    found_called : (o kind argument : ℕ) → (call_step z t s o kind argument).reply.number ≡ 0
        → Kept (call_step z t s o kind argument).tables (with (with_call (call_of o kind argument) f.own))
    found_called o kind argument =
        subst
        (λ (r : ℕ). (call_step z t r o kind argument).reply.number ≡ 0
        → Kept (call_step z t r o kind argument).tables (with (with_call (call_of o kind argument) f.own)))
        f.slot (call_kept z within words first t f.before f.own f.behind split f.live none_before none_behind o kind argument)

    found_released : (o : ℕ) → (release_step z t s o).reply.number ≡ 0 → Kept (release_step z t s o).tables (with f.own)
    found_released o =
        subst (λ (r : ℕ). (release_step z t r o).reply.number ≡ 0 → Kept (release_step z t r o).tables (with f.own)) f.slot
        (release_kept z within words first t f.before f.own f.behind split f.live none_before none_behind o)

    found_ended : (rollback : Bool) (tick : ℕ) (buffer : List ℕ) → (end_step z rollback t s tick buffer).reply.number ≡ 0
        → Kept (end_step z rollback t s tick buffer).tables (with (with_end (status_of rollback) (written_by rollback s tick buffer) f.own))
    found_ended rollback tick buffer =
        subst
        (λ (r : ℕ). (end_step z rollback t r tick buffer).reply.number ≡ 0
        → Kept (end_step z rollback t r tick buffer).tables (with (with_end (status_of rollback) (written_by rollback r tick buffer) f.own)))
        f.slot (end_kept z within words first t f.before f.own f.behind split f.live none_before none_behind rollback tick buffer)

  called : (s o kind argument : ℕ) → (call_step z t s o kind argument).reply.number ≡ 0
      → Kept (call_step z t s o kind argument).tables
      (changed s (with_call (record { object = o; kind = kind; argument = argument; answer = (call_step z t s o kind argument).reply.value })) run.history)
  called s o kind argument done =
      let f : Found s run.history = found_of z words first run inv s ((call_accepted z t s o kind argument).0 done).release.live in
      rw (call_answers z t s o kind argument done, changed_found s run.history f (with_call (call_of o kind argument)))
      (found_called s f o kind argument done)

  released : (s o : ℕ) → (release_step z t s o).reply.number ≡ 0 → Kept (release_step z t s o).tables run.history
  released s o done =
      let f : Found s run.history = found_of z words first run inv s ((release_accepted z t s o).0 done).live in
      rw f.all (found_released s f o done)

  ended : (rollback : Bool) (s tick : ℕ) (buffer : List ℕ) → (end_step z rollback t s tick buffer).reply.number ≡ 0
      → Kept (end_step z rollback t s tick buffer).tables
      (changed s (with_end (status_of rollback) (written_by rollback s tick buffer)) run.history)
  ended rollback s tick buffer done =
      let f : Found s run.history = found_of z words first run inv s (end_live z t rollback s tick buffer done) in
      rw (changed_found s run.history f (with_end (status_of rollback) (written_by rollback s tick buffer))) (found_ended s f rollback tick buffer done)

  -- an accepted event
  accepted : (event : Event) (list buffer : List ℕ) → (event_step z t event list buffer).reply.number ≡ 0
      → Kept (event_step z t event list buffer).tables
      (extended event list (event_step z t event list buffer).reply.value (event_step z t event list buffer).buffer run.history)
  accepted (Event.Start slot) list buffer done = start_kept z words first run inv slot.0 list done
  accepted (Event.Call slot object kind argument) list buffer done = called slot.0 object.0 kind argument done
  accepted (Event.Release slot object) list buffer done = released slot.0 object.0 done
  accepted (Event.End slot tick rollback) list buffer done = ended rollback slot.0 tick buffer done

  accepted_by : (fields : Fields) (list buffer : List ℕ) → (fields_step z t fields list buffer).reply.number ≡ 0
      → Kept (fields_step z t fields list buffer).tables
      (extended_by fields list (fields_step z t fields list buffer).reply.value (fields_step z t fields list buffer).buffer run.history)
  accepted_by (Fields.Fresh version) list buffer done = inv
  accepted_by (Fields.Event event) list buffer done = accepted event list buffer done
  accepted_by (Fields.Ended tick slot rollback) list buffer done = inv

  pub after_kept : (handed : Handed) → Invariant z words first (after z run handed)
  after_kept handed = by (eqb (outcome_of z t handed).reply.number 0) refl
    where
      by : (b : Bool) → eqb (outcome_of z t handed).reply.number 0 ≡ b → Invariant z words first (after z run handed)
      by true e = rw e (accepted_by handed.fields handed.list handed.buffer (eqb-true (outcome_of z t handed).reply.number 0 e))
      by false e =
          rw (e, (fields_refused z t handed.fields handed.list handed.buffer (eqb-false (outcome_of z t handed).reply.number 0 e)).tables) inv
