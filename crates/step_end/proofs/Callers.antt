-- A walk may spoil the slot that ends with the other callers of an object, since its own pair is zero behind it.
use Prim.Native.Nat.{ℕ, zero, suc, ◌+◌, ◌*◌, ◌≤◌, ◌<◌}
use mathlib.Core.Bool.{Bool, true, false, not, ◌&&◌}
use mathlib.Core.Logic.{◌≢◌}
use mathlib.Core.Path.{◌≡◌, refl, sym, ap, ◌∙◌}
use native.Mathlib.Omega.{arith}
use lib.Dec.{eqb}
use lib.Seq.{set-set, set_comm}
use borrow.Author.Tests.{eqb-true, eqb-false}
use Rattle.answers.specs.Order.{pick}
use Rattle.counters.specs.Sizes.{Size}
use Rattle.objects.specs.Places.{no_pair, restores, spoiled_pair}
use Rattle.objects.specs.declared.Object.{Object}
use Rattle.objects.specs.declared.Pair.{Pair}
use Rattle.rules.specs.Tables.{State, object_at, live_at, pair_at, with_object, with_pair}
use Rattle.rules.specs.Walks.{each_below}
use Rattle.rules.specs.Effects.{spoil_one}
use Rattle.rules.proofs.Picking.{pick_seen}
use Rattle.rules.proofs.Stores.{Sized, place_apart, pair_elsewhere}
use Rattle.leaf_end.specs.Serving.Ends.{ended_object, slots_asked, end_cleared}
use Rattle.leaf_end.proofs.EndTurns.{turn_ended}
use Rattle.tables.specs.Serving.Changes.{spoil_caller}

module _ (z : Size) (s o : ℕ) (object : o < z.objects) where
  cleared : State → State
  cleared t = with_pair z t s o no_pair

  -- another slot's pair is read and stored beside it
  caller_beside : (r : ℕ) (t : State) → r ≢ s → spoil_caller z o r (cleared t) ≡ cleared (spoil_caller z o r t)
  unfolding cleared
  caller_beside r t other =
      let read : pair_at z (cleared t) r o ≡ pair_at z t r o = pair_elsewhere z t s o r o no_pair object object (λ same. other same.0) in
      let elsewhere : s * z.objects + o ≢ r * z.objects + o = λ same. other (sym (place_apart z.objects s r o o object object same).0) in
      let spoiled : Pair = spoiled_pair (pair_at z t r o) in
      let stored : with_pair z (cleared t) r o spoiled ≡ cleared (with_pair z t r o spoiled) =
      λ i. record { objects = t.objects; live = t.live; pairs = set_comm t.pairs (s * z.objects + o) (r * z.objects + o) no_pair spoiled elsewhere i } in
      (λ i. pick (live_at t r && (read i).called) (with_pair z (cleared t) r o (spoiled_pair (read i))) (cleared t))
      ∙ ap (λ (u : State). pick (live_at t r && (pair_at z t r o).called) u (cleared t)) stored
      ∙ sym (pick_seen cleared (live_at t r && (pair_at z t r o).called) (with_pair z t r o spoiled) t)

  -- the slot's own pair is zero whatever was stored there
  own_cleared : (t : State) → cleared (spoil_caller z o s t) ≡ cleared t
  unfolding cleared
  own_cleared t = go (live_at t s && (pair_at z t s o).called)
    where
      go : (b : Bool) → cleared (pick b (with_pair z t s o (spoiled_pair (pair_at z t s o))) t) ≡ cleared t
      go true = λ i. record { objects = t.objects; live = t.live; pairs = set-set t.pairs (s * z.objects + o) (spoiled_pair (pair_at z t s o)) no_pair i }
      go false = refl

  other_spoiled : (r : ℕ) (t : State) → eqb r s ≡ false → spoil_one z s o r t ≡ spoil_caller z o r t
  other_spoiled r t e = rw e

  none_spoiled : (r : ℕ) (t : State) → eqb r s ≡ true → spoil_one z s o r t ≡ t
  none_spoiled r t e = go (live_at t r)
    where
      go : (b : Bool) → pick (b && (not (eqb r s) && (pair_at z t r o).called)) (with_pair z t r o (spoiled_pair (pair_at z t r o))) t ≡ t
      go true = rw e
      go false = refl

  callers : (n : ℕ) (t : State) → cleared (each_below n (λ r u. spoil_caller z o r u) t) ≡ cleared (each_below n (λ r u. spoil_one z s o r u) t)
  unfolding each_below
  callers zero t = refl
  callers (suc n) t = go (eqb n s) refl (callers n t)
    where
      all : State
      all = each_below n (λ r u. spoil_caller z o r u) t

      others : State
      others = each_below n (λ r u. spoil_one z s o r u) t

      go : (b : Bool) → eqb n s ≡ b → cleared all ≡ cleared others → cleared (spoil_caller z o n all) ≡ cleared (spoil_one z s o n others)
      go true e before =
          ap (λ (r : ℕ). cleared (spoil_caller z o r all)) (eqb-true n s e)
          ∙ own_cleared all
          ∙ before
          ∙ ap cleared (sym (none_spoiled n others e))
      go false e before =
          sym (caller_beside n all (eqb-false n s e))
          ∙ ap (spoil_caller z o n) before
          ∙ caller_beside n others (eqb-false n s e)
          ∙ ap cleared (sym (other_spoiled n others e))

  -- the object stored, its callers spoiled and the slot's pair zero are one turn of the end
  pub turned : (rollback : Bool) (t : State) → Sized z t → (pair none : Pair) (before after : Object) (asked : ℕ)
      → pair ≡ pair_at z t s o → before ≡ object_at t o → after ≡ ended_object z.slots rollback pair before
      → asked ≡ slots_asked z.slots rollback pair → none ≡ no_pair
      → with_pair z (each_below asked (λ r u. spoil_caller z o r u) (with_object t o after)) s o none ≡ end_cleared z rollback s o t
  unfolding cleared
  turned rollback t sized pair none before after asked is_pair is-before is-after is-asked is_none =
      (λ i. with_pair z (each_below (is-asked i) (λ r u. spoil_caller z o r u) (with_object t o (is-after i))) s o (is_none i))
      ∙ callers (slots_asked z.slots rollback pair) (with_object t o (ended_object z.slots rollback pair before))
      ∙ (λ i. cleared (each_below (slots_asked z.slots rollback (is_pair i)) (λ r u. spoil_one z s o r u) (with_object t o (ended_object z.slots rollback (is_pair i) (is-before i)))))
      ∙ ap cleared (turn_ended z s o t sized object rollback)

-- as many slots are asked as there are, or none
pub asked_inside : (slots : ℕ) (rollback : Bool) (pair : Pair) → slots_asked slots rollback pair ≤ slots
asked_inside slots rollback pair = go (rollback && restores pair)
  where
    go : (b : Bool) → pick b slots 0 ≤ slots
    go true = omega arith
    go false = omega arith
