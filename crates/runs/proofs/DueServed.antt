-- A live slot whose turn has come, and whose end is due, on every object that it declares: it is never told to wait, and its end is accepted.
use Prim.Native.Nat.{ℕ, ◌+◌, ◌<◌, ◌≤◌}
use mathlib.Core.Bool.{Bool, true, false, not}
use mathlib.Core.List.{List, [], ◌∷◌}
use mathlib.Core.Logic.{◌≢◌}
use mathlib.Core.Path.{◌≡◌, refl, sym, subst, ◌∙◌}
use native.Mathlib.Omega.{arith}
use lib.Dec.{leb, eqb}
use lib.ListN.{length}
use borrow.Author.Tests.{eqb-true, eq-eqb, leb-false, not-false}
use Rattle.answers.specs.Numbers.{number_of}
use Rattle.answers.specs.Order.{Rule, decide}
use Rattle.answers.specs.declared.Refusal.{Refusal}
use Rattle.answers.specs.declared.Refusal.TheVariants.{Wait}
use Rattle.counters.specs.Sizes.{Size}
use Rattle.counters.specs.Versions.{next}
use Rattle.record_layout.specs.declared.fields.Event.{Event}
use Rattle.record_layout.specs.Declarations.{Declaration, declarations_of}
use Rattle.objects.specs.Places.{turn_of, says_wait}
use Rattle.rules.specs.Tables.{State, object_at, live_at, pair_at}
use Rattle.rules.specs.Refusing.{misses, unmet, declaration_rules}
use Rattle.rules.specs.Steps.{Stepping, unchanged, beside, start_step, call_step, release_step, end_step, event_step}
use Rattle.runs.specs.Demands.{of_slot, room_for_end, Served}
use Rattle.rules.proofs.Picking.{clash}
use Rattle.rules.proofs.Walking.{any_none, none_any}
use Rattle.rules.proofs.Facts.{need_met}
use Rattle.rules.proofs.RulesOf.{rules_of_start, started, rules_of_call, called, rules_of_release, released, rules_of_end, ended}
use Rattle.rules.proofs.Accepted.{EndFits, rollback_accepted, commit_accepted}
use Rattle.runs.proofs.EndRecords.{record_fits}

-- of a rule that says to wait: it does not hold
abbrev Quiet : Bool → Bool → Type 0
Quiet true holds = holds ≡ false
Quiet false holds = Unit {0}

-- where all rules before it pass, no rule says to wait
abbrev NoWait : List Rule → Type 0
NoWait [] = Unit {0}
NoWait (rule ∷ rules) = Quiet (eqb (number_of rule.refusal) (number_of Wait)) rule.holds × (rule.holds ≡ false → NoWait rules)

-- then what is decided is not to wait
decides_no_wait : {A : Type 0} (number : A → ℕ) (rules : List Rule) (refused : Refusal → A) (done : A)
    → ((refusal : Refusal) → number (refused refusal) ≡ number_of refusal) → number done ≡ 0 → NoWait rules
    → number (decide rules refused done) ≢ number_of Wait
decides_no_wait number [] refused done tells zero no_wait = λ waits. omega arith
decides_no_wait number (rule ∷ rules) refused done tells zero no_wait =
    by rule.holds refl (decides_no_wait number rules refused done tells zero)
  where
    held : rule.holds ≡ true → number_of rule.refusal ≢ number_of Wait
    held e waits =
        let quiet : rule.holds ≡ false = rw (eq-eqb (number_of rule.refusal) (number_of Wait) waits) at no_wait.0 in
        clash (sym e ∙ quiet)

    by : (holds : Bool) → rule.holds ≡ holds → (NoWait rules → number (decide rules refused done) ≢ number_of Wait)
        → number (decide (rule ∷ rules) refused done) ≢ number_of Wait
    by true e rest = rw (e, tells rule.refusal) (held e)
    by false e rest = rw e (rest (no_wait.1 e))

-- a start has no such rule at all
declarations_no_wait : (z : Size) (least : ℕ) (declarations : List Declaration) → NoWait (declaration_rules z least declarations)
declarations_no_wait z least [] = tt
declarations_no_wait z least (declaration ∷ rest) = (tt, λ inside. (tt, λ above. declarations_no_wait z (declaration.object + 1) rest))

-- its turn has come, or is over
pub record Due (z : Size) (t : State) (s : ℕ) : Type 0 where
  pub slot : s < z.slots
  pub live : live_at t s ≡ true
  pub turn : (o : ℕ) → o < z.objects → (pair_at z t s o).declared ≡ true → says_wait (turn_of z.slots (pair_at z t s o) (object_at t o)) ≡ false
  pub need : (o : ℕ) → o < z.objects → (pair_at z t s o).declared ≡ true → next (object_at t o).terminal.0 ≡ (pair_at z t s o).private.0

module _ (z : Size) (t : State) where
  step_no_wait : (rules : List Rule) (done : Stepping) → done.reply.number ≡ 0 → NoWait rules
      → (decide rules (unchanged t) done).reply.number ≢ number_of Wait
  step_no_wait rules done zero no_wait =
      decides_no_wait (λ stepping. stepping.reply.number) rules (unchanged t) done (λ refusal. refl) zero no_wait

  start_no_wait : (s : ℕ) (list : List ℕ) → (start_step z t s list).reply.number ≢ number_of Wait
  start_no_wait s list =
      step_no_wait (rules_of_start z t s list) (started z t s list) refl
      (tt, λ slot. (tt, λ idle. (tt, λ fits. declarations_no_wait z 0 (declarations_of list))))

module _ (z : Size) (t : State) (s : ℕ) (due : Due z t s) where
  -- once the object is known to be inside and declared
  turn_quiet : (o : ℕ) → leb z.objects o ≡ false → not (pair_at z t s o).declared ≡ false
      → says_wait (turn_of z.slots (pair_at z t s o) (object_at t o)) ≡ false
  turn_quiet o inside declared = due.turn o (leb-false z.objects o inside) (not-false (pair_at z t s o).declared declared)

  call_no_wait : (o kind argument : ℕ) → (call_step z t s o kind argument).reply.number ≢ number_of Wait
  call_no_wait o kind argument =
      step_no_wait z t (rules_of_call z t s o kind) (called z t s o kind argument) refl
      (tt, λ slot. (tt, λ live. (tt, λ inside. (tt, λ declared. (tt, λ known. (tt, λ clean. (tt, λ held. (turn_quiet o inside declared, λ now. tt))))))))

  release_no_wait : (o : ℕ) → (release_step z t s o).reply.number ≢ number_of Wait
  release_no_wait o =
      step_no_wait z t (rules_of_release z t s o) (released z t s o) refl
      (tt, λ slot. (tt, λ live. (tt, λ inside. (tt, λ declared. (tt, λ held. (turn_quiet o inside declared, λ now. tt))))))

  met : unmet z t s ≡ false
  met = none_any z.objects (λ o. misses (pair_at z t s o) (object_at t o)) (λ o below. (need_met (pair_at z t s o) (object_at t o)).1 (due.need o below))

  end_quiet : (rollback : Bool) (tick : ℕ) (buffer : List ℕ) → NoWait (rules_of_end z t rollback s tick buffer)
  end_quiet true tick buffer = (tt, λ slot. (tt, λ live. (met, λ need. (tt, λ room. tt))))
  end_quiet false tick buffer = (tt, λ slot. (tt, λ live. (tt, λ clean. (met, λ need. (tt, λ room. tt)))))

  end_no_wait : (rollback : Bool) (tick : ℕ) (buffer : List ℕ) → (end_step z rollback t s tick buffer).reply.number ≢ number_of Wait
  end_no_wait rollback tick buffer =
      decides_no_wait (λ outcome. outcome.reply.number) (rules_of_end z t rollback s tick buffer) (λ refusal. beside buffer (unchanged t refusal))
      (ended z t rollback s tick buffer) (λ refusal. refl) refl (end_quiet rollback tick buffer)

  -- an event of a slot that is this one
  at_slot : (slot : ℕ) (P : ℕ → Type 0) → eqb slot s ≡ true → P s → P slot
  at_slot slot P own holds = subst P (sym (eqb-true slot s own)) holds

  no_wait : (event : Event) (list buffer : List ℕ) → of_slot s event ≡ true → (event_step z t event list buffer).reply.number ≢ number_of Wait
  no_wait (Event.Start slot) list buffer own = start_no_wait z t slot.0 list
  no_wait (Event.Call slot object kind argument) list buffer own =
      at_slot slot.0 (λ r. (call_step z t r object.0 kind argument).reply.number ≢ number_of Wait) own (call_no_wait object.0 kind argument)
  no_wait (Event.Release slot object) list buffer own =
      at_slot slot.0 (λ r. (release_step z t r object.0).reply.number ≢ number_of Wait) own (release_no_wait object.0)
  no_wait (Event.End slot tick rollback) list buffer own =
      at_slot slot.0 (λ r. (end_step z rollback t r tick buffer).reply.number ≢ number_of Wait) own (end_no_wait rollback tick buffer)

  end_fits : (rollback : Bool) (tick : ℕ) (buffer : List ℕ) → room_for_end z ≤ length buffer → EndFits z rollback t s tick buffer
  end_fits rollback tick buffer room =
      record { slot = due.slot; live = due.live; need = due.need; room = omega (arith, record_fits z rollback s tick t) }

  pub due_served : Served z t s
  due_served =
      record {
        never_waits = no_wait;
        rolls_back = λ tick buffer room. (rollback_accepted z t s tick buffer).1 (end_fits true tick buffer room);
        commits = λ tick buffer room clean.
            (commit_accepted z t s tick buffer).1
            (record { end = end_fits false tick buffer room; unspoiled = any_none z.objects (λ o. (pair_at z t s o).spoiled) clean });
      }
