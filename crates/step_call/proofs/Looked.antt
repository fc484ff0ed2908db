-- What a call and a release look at, decide and store is the rules' step.
use Prim.Native.Nat.{ℕ, ◌<◌}
use mathlib.Core.Bool.{Bool, not}
use mathlib.Core.List.{List, ◌∷◌}
use mathlib.Core.Path.{◌≡◌, sym, ◌∙◌}
use lib.Dec.{leb}
use Rattle.answers.specs.Numbers.{accepted}
use Rattle.answers.specs.Order.{Rule, decide, ◌when◌, refuses, passes}
use Rattle.answers.specs.declared.Refusal.{Refusal}
use Rattle.answers.specs.declared.Refusal.TheVariants.{NotDeclared, BadCall, Doomed}
use Rattle.counters.specs.Sizes.{Size}
use Rattle.kinds.specs.Kinds.{acted}
use Rattle.kinds.specs.declared.Acted.{Acted}
use Rattle.objects.specs.Places.{called_object, called_pair, let_go}
use Rattle.objects.specs.declared.Object.{Object}
use Rattle.objects.specs.declared.Pair.{Pair}
use Rattle.rules.specs.Tables.{State, object_at, live_at, pair_at, with_object, with_pair}
use Rattle.rules.specs.Refusing.{doomed, turn_rules, call_rules, release_rules}
use Rattle.rules.specs.Effects.{call_effect, release_effect}
use Rattle.rules.specs.Steps.{Stepping, unchanged, call_step, release_step}
use Rattle.step_call.proofs.InRange.{step_refused, step_passed}

-- what is looked at in t: the slot and the object of the event where these are in range, and what stands there
pub record LookedAtPair (z : Size) (t : State) (slot number s o : ℕ) (live : Bool) (pair : Pair) (object : Object) : Type 0 where
  pub right_slot : slot < z.slots → s ≡ slot
  pub right_object : number < z.objects → o ≡ number
  pub is_live : live ≡ live_at t s
  pub is_pair : pair ≡ pair_at z t s o
  pub is_object : object ≡ object_at t o

module _ {z : Size} {t : State} {slot number s o : ℕ} {live : Bool} {pair : Pair} {object : Object} (looked : LookedAtPair z t slot number s o live pair object) where
  releasing : ℕ → ℕ → List Rule
  releasing r q = NotDeclared when not (pair_at z t r q).declared ∷ turn_rules z (pair_at z t r q) (object_at t q)

  released : ℕ → ℕ → Stepping
  released r q = record { tables = release_effect z r q t; reply = accepted 0 }

  pub release_refused : (refusal : Refusal) → decide (release_rules z slot number live pair object) refuses passes ≡ refuses refusal
      → unchanged t refusal ≡ release_step z t slot number
  unfolding releasing released
  release_refused refusal e =
      step_refused z t slot number s o looked.right_slot looked.right_object releasing released refusal
      ((λ i. decide (release_rules z slot number (sym looked.is_live i) (sym looked.is_pair i) (sym looked.is_object i)) refuses passes) ∙ e)

  pub release_passed : decide (release_rules z slot number live pair object) refuses passes ≡ passes
      → record { tables = with_object t o (let_go pair.private object); reply = accepted 0 } ≡ release_step z t slot number
  unfolding releasing released
  release_passed e =
      (λ i. record { tables = with_object t o (let_go (looked.is_pair i).private (looked.is_object i)); reply = accepted 0 })
      ∙ step_passed z t slot number s o looked.right_slot looked.right_object releasing released
      ((λ i. decide (release_rules z slot number (sym looked.is_live i) (sym looked.is_pair i) (sym looked.is_object i)) refuses passes) ∙ e)

  module _ (kind argument : ℕ) (is-doomed : Bool) (dooms : is-doomed ≡ doomed z t s) where
    calling : ℕ → ℕ → List Rule
    calling r q =
        NotDeclared when not (pair_at z t r q).declared
        ∷ BadCall when leb 4 kind
        ∷ Doomed when doomed z t r
        ∷ turn_rules z (pair_at z t r q) (object_at t q)

    called : ℕ → ℕ → Stepping
    called r q = record { tables = call_effect z r q (acted kind (object_at t q).word argument).word t; reply = accepted (acted kind (object_at t q).word argument).answer }

    pub call_refused : (refusal : Refusal) → decide (call_rules z slot number kind live is-doomed pair object) refuses passes ≡ refuses refusal
        → unchanged t refusal ≡ call_step z t slot number kind argument
    unfolding calling called
    call_refused refusal e =
        step_refused z t slot number s o looked.right_slot looked.right_object calling called refusal
        ((λ i. decide (call_rules z slot number kind (sym looked.is_live i) (sym dooms i) (sym looked.is_pair i) (sym looked.is_object i)) refuses passes) ∙ e)

    pub call_passed : decide (call_rules z slot number kind live is-doomed pair object) refuses passes ≡ passes
        → (act : Acted) (next : Object) (next-pair : Pair) → act ≡ acted kind object.word argument
        → next ≡ called_object act.word pair object → next-pair ≡ called_pair pair object
        → record { tables = with_pair z (with_object t o next) s o next-pair; reply = accepted act.answer } ≡ call_step z t slot number kind argument
    unfolding calling called
    call_passed e act next next-pair acts is-next is-next-pair =
        (λ i. record { tables = with_pair z (with_object t o (is-next i)) s o (is-next-pair i); reply = accepted act.answer })
        ∙ (λ i. record { tables = with_pair z (with_object t o (called_object (acts i).word pair object)) s o (called_pair pair object); reply = accepted (acts i).answer })
        ∙ (λ i.
        record {
          tables =
              with_pair z (with_object t o (called_object (acted kind (looked.is_object i).word argument).word (looked.is_pair i) (looked.is_object i))) s o
              (called_pair (looked.is_pair i) (looked.is_object i));
          reply = accepted (acted kind (looked.is_object i).word argument).answer;
        })
        ∙ step_passed z t slot number s o looked.right_slot looked.right_object calling called
        ((λ i. decide (call_rules z slot number kind (sym looked.is_live i) (sym dooms i) (sym looked.is_pair i) (sym looked.is_object i)) refuses passes) ∙ e)
