-- An end whole: what was looked at, decided, written and settled is the rules' step.
use Prim.Native.Nat.{ℕ, ◌+◌, ◌≤◌, ◌<◌}
use mathlib.Core.Bool.{Bool, true, false}
use mathlib.Core.List.{List, ◌++◌}
use mathlib.Core.Path.{◌≡◌, refl, sym, ap, ◌∙◌}
use native.Mathlib.Omega.{arith}
use lib.ListN.{length, drop}
use lib.Dec.{leb, ltb}
use borrow.Author.Tests.{leb-false, ltb-false}
use Rattle.answers.specs.Numbers.{accepted}
use Rattle.answers.specs.Order.{Rule, decide, refuses, passes}
use Rattle.answers.specs.declared.Refusal.{Refusal}
use Rattle.counters.specs.Sizes.{Size}
use Rattle.record_layout.specs.Kinds.{shape_of}
use Rattle.record_layout.specs.Fields.{kind_of_fields, record_of}
use Rattle.rules.specs.Tables.{State, live_at, with_live}
use Rattle.rules.specs.Walks.{each_below}
use Rattle.rules.specs.Refusing.{doomed, unmet, end_rules}
use Rattle.rules.specs.Effects.{end_entries, end_fields, end_record, end_turn, end_effect, clear_slot}
use Rattle.rules.specs.Steps.{Outcome, unchanged, beside, end_step}
use Rattle.leaf_end.specs.Serving.Standings.{standing_of}
use Rattle.leaf_end.specs.declared.Standing.{Standing}
use Rattle.answers.proofs.Saying.{none_holds, when_passes, when_refuses}
use Rattle.leaf_end.specs.Serving.Ends.{end_cleared}
use Rattle.leaf_end.proofs.EndClears.{cleared_behind}

-- the head of an end's record, whichever end it is
pub end_length : (rollback : Bool) (tick slot : ℕ) (list : List ℕ) → length (record_of (end_fields rollback tick slot) list) ≡ 10 + length list
end_length true tick slot list = omega arith
end_length false tick slot list = omega arith

pub end_front : (rollback : Bool) (tick slot : ℕ) → 10 ≡ 4 + (shape_of (kind_of_fields (end_fields rollback tick slot))).head
end_front true tick slot = refl
end_front false tick slot = refl

-- an end that passes has its slot in range, and room
passing : (z : Size) (rollback : Bool) (slot : ℕ) (live is-doomed is-unmet short : Bool)
    → decide (end_rules z rollback slot live is-doomed is-unmet short) refuses passes ≡ passes → (slot < z.slots) × (short ≡ false)
passing z true slot live is-doomed is-unmet short e =
    let none = none_holds (end_rules z true slot live is-doomed is-unmet short) e in
    (leb-false _ _ none.0, none.1.1.1.0)
passing z false slot live is-doomed is-unmet short e =
    let none = none_holds (end_rules z false slot live is-doomed is-unmet short) e in
    (leb-false _ _ none.0, none.1.1.1.1.0)

-- what is looked at in t: the slot of the event where it is in range, how it stands, and whether the buffer is too short
pub record LookedAtSlot (z : Size) (t : State) (slot s : ℕ) (buffer : List ℕ) (live : Bool) (standing : Standing) (short : Bool) : Type 0 where
  pub right_slot : slot < z.slots → s ≡ slot
  pub is_live : live ≡ live_at t s
  pub is_standing : standing ≡ standing_of z t s
  pub is_short : short ≡ ltb (length buffer) (10 + standing.bytes)

module _ {z : Size} {t : State} {slot s : ℕ} {buffer : List ℕ} {live : Bool} {standing : Standing} {short : Bool}
    (looked : LookedAtSlot z t slot s buffer live standing short) (rollback : Bool) (tick : ℕ) where
  -- the rules as the slot that is looked at has them
  rules_at : ℕ → List Rule
  rules_at r = end_rules z rollback slot (live_at t r) (doomed z t r) (unmet z t r) (ltb (length buffer) (10 + length (end_entries z r t)))

  said : end_rules z rollback slot live standing.doomed standing.unmet short ≡ rules_at s
  unfolding rules_at
  said =
      (λ i. end_rules z rollback slot (looked.is_live i) standing.doomed standing.unmet (looked.is_short i))
      ∙ (λ i. end_rules z rollback slot (live_at t s) (looked.is_standing i).doomed (looked.is_standing i).unmet (ltb (length buffer) (10 + (looked.is_standing i).bytes)))

  same_verdict : {A : Type 0} (refusing : Refusal → A) (made : A) → decide (rules_at s) refusing made ≡ decide (rules_at slot) refusing made
  unfolding rules_at
  same_verdict refusing made = go (leb z.slots slot) refl
    where
      past : (b : Bool) → leb z.slots slot ≡ true
          → decide (end_rules z b slot (live_at t s) (doomed z t s) (unmet z t s) (ltb (length buffer) (10 + length (end_entries z s t)))) refusing made
          ≡ decide (end_rules z b slot (live_at t slot) (doomed z t slot) (unmet z t slot) (ltb (length buffer) (10 + length (end_entries z slot t)))) refusing made
      past true e = rw e
      past false e = rw e

      go : (b : Bool) → leb z.slots slot ≡ b → decide (rules_at s) refusing made ≡ decide (rules_at slot) refusing made
      go true e = past rollback e
      go false e = ap (λ (r : ℕ). decide (rules_at r) refusing made) (looked.right_slot (leb-false _ _ e))

  made : Outcome
  made =
      record {
        tables = end_effect z rollback slot t;
        reply = accepted (length (end_record z rollback slot tick t));
        buffer = end_record z rollback slot tick t ++ drop (length (end_record z rollback slot tick t)) buffer;
      }

  stated : decide (rules_at slot) (λ refusal. beside buffer (unchanged t refusal)) made ≡ end_step z rollback t slot tick buffer
  unfolding rules_at made
  stated =
      ap
      (λ (n : ℕ).
      decide (end_rules z rollback slot (live_at t slot) (doomed z t slot) (unmet z t slot) (ltb (length buffer) n))
      (λ refusal. beside buffer (unchanged t refusal)) made)
      (sym (end_length rollback tick slot (end_entries z slot t)))

  pub end_refused : (refusal : Refusal) → decide (end_rules z rollback slot live standing.doomed standing.unmet short) refuses passes ≡ refuses refusal
      → beside buffer (unchanged t refusal) ≡ end_step z rollback t slot tick buffer
  unfolding rules_at made
  end_refused refusal e =
      sym (when_refuses (rules_at s) refusal (ap (λ (rules : List Rule). decide rules refuses passes) (sym said) ∙ e) (λ x. beside buffer (unchanged t x)) made)
      ∙ same_verdict (λ x. beside buffer (unchanged t x)) made
      ∙ stated

  module _ (e : decide (end_rules z rollback slot live standing.doomed standing.unmet short) refuses passes ≡ passes) where
    pub has_room : 10 + standing.bytes ≤ length buffer
    has_room = ltb-false (length buffer) (10 + standing.bytes) (sym looked.is_short ∙ (passing z rollback slot live standing.doomed standing.unmet short e).1)

    pub end_passed : (t₂ : State) (written : List ℕ) → t₂ ≡ each_below z.objects (λ o u. end_cleared z rollback s o u) t
        → written ≡ record_of (end_fields rollback tick slot) (end_entries z s t) ++ drop (10 + standing.bytes) buffer
        → record { tables = with_live t₂ s false; reply = accepted (10 + standing.bytes); buffer = written } ≡ end_step z rollback t slot tick buffer
    unfolding rules_at made
    end_passed t₂ written settled is-written =
        let same : s ≡ slot = looked.right_slot (passing z rollback slot live standing.doomed standing.unmet short e).0 in
        let long : 10 + standing.bytes ≡ length (end_record z rollback slot tick t) =
        (λ i. 10 + (looked.is_standing i).bytes) ∙ (λ i. 10 + length (end_entries z (same i) t)) ∙ sym (end_length rollback tick slot (end_entries z slot t)) in
        let tables : with_live t₂ s false ≡ end_effect z rollback slot t =
        (λ i. with_live ((settled ∙ cleared_behind z rollback s z.objects t (omega arith)) i) s false)
        ∙ (λ i. with_live (clear_slot z (same i) (each_below z.objects (λ o u. end_turn z rollback (same i) o u) t)) (same i) false) in
        let record_is : written ≡ end_record z rollback slot tick t ++ drop (length (end_record z rollback slot tick t)) buffer =
        is-written ∙ (λ i. record_of (end_fields rollback tick slot) (end_entries z (same i) t) ++ drop (long i) buffer) in
        (λ i. record { tables = tables i; reply = accepted (long i); buffer = record_is i })
        ∙ sym (when_passes (rules_at s) (ap (λ (rules : List Rule). decide rules refuses passes) (sym said) ∙ e) (λ x. beside buffer (unchanged t x)) made)
        ∙ same_verdict (λ x. beside buffer (unchanged t x)) made
        ∙ stated
