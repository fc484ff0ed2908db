-- A call and a release ask about the slot and the object of the event where these are in range, and about others where they are not: the
-- verdict is that of the event, and where it passes they were those of the event.
use Prim.Native.Nat.{ℕ, ◌<◌}
use mathlib.Core.Bool.{not}
use mathlib.Core.List.{List, ◌∷◌}
use mathlib.Core.Path.{◌≡◌, sym, ap, ◌∙◌}
use lib.Dec.{leb}
use borrow.Author.Tests.{leb-false}
use Rattle.answers.proofs.Deciding.{behind_rule}
use Rattle.answers.proofs.Saying.{none_holds, when_passes, when_refuses}
use Rattle.answers.specs.Order.{Rule, decide, ◌when◌, refuses, passes}
use Rattle.answers.specs.declared.Refusal.{Refusal}
use Rattle.answers.specs.declared.Refusal.TheVariants.{BadSlot, Idle, BadObject}
use Rattle.counters.specs.Sizes.{Size}
use Rattle.rules.specs.Tables.{State, live_at}
use Rattle.rules.specs.Steps.{Stepping, unchanged}

-- the rules of both steps begin with slot, live mark and object; the others are of what is asked about
abbrev pub rules_at : Size → State → ℕ → ℕ → ℕ → List Rule → List Rule
rules_at z t slot number s others =
    BadSlot when leb z.slots slot
    ∷ Idle when not (live_at t s)
    ∷ BadObject when leb z.objects number
    ∷ others

module _ (z : Size) (t : State) (slot number s o : ℕ) (right_slot : slot < z.slots → s ≡ slot) (right_object : number < z.objects → o ≡ number)
    (others : ℕ → ℕ → List Rule) where
  abbrev behind_live : ℕ → ℕ → List Rule
  behind_live r q = BadObject when leb z.objects number ∷ others r q

  abbrev behind_slot : ℕ → ℕ → List Rule
  behind_slot r q = Idle when not (live_at t r) ∷ behind_live r q

  abbrev asked : List Rule
  asked = rules_at z t slot number s (others s o)

  abbrev meant : List Rule
  meant = rules_at z t slot number slot (others slot number)

  same_verdict : {A : Type 0} (refused : Refusal → A) (accepted : A) → decide asked refused accepted ≡ decide meant refused accepted
  same_verdict refused accepted =
      behind_rule (BadSlot when leb z.slots slot) (behind_slot s o) (behind_slot slot number) refused accepted
      (λ inside.
      ap (λ (r : ℕ). decide (behind_slot r o) refused accepted) (right_slot (leb-false _ _ inside))
      ∙ behind_rule (Idle when not (live_at t slot)) (behind_live slot o) (behind_live slot number) refused accepted
      (λ live.
      behind_rule (BadObject when leb z.objects number) (others slot o) (others slot number) refused accepted
      (λ known. ap (λ (q : ℕ). decide (others slot q) refused accepted) (right_object (leb-false _ _ known)))))

  pub step_refused : (effect : ℕ → ℕ → Stepping) (refusal : Refusal) → decide asked refuses passes ≡ refuses refusal
      → unchanged t refusal ≡ decide meant (unchanged t) (effect slot number)
  step_refused effect refusal e =
      sym (when_refuses asked refusal e (unchanged t) (effect slot number)) ∙ same_verdict (unchanged t) (effect slot number)

  pub step_passed : (effect : ℕ → ℕ → Stepping) → decide asked refuses passes ≡ passes
      → effect s o ≡ decide meant (unchanged t) (effect slot number)
  step_passed effect e =
      let none = none_holds asked e in
      (λ i. effect (right_slot (leb-false _ _ none.0) i) (right_object (leb-false _ _ none.1.1.0) i))
      ∙ sym (when_passes asked e (unchanged t) (effect slot number))
      ∙ same_verdict (unchanged t) (effect slot number)
