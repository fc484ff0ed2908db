-- An end, object by object: the object stored and the others spoiled are one turn of the rules.
use Prim.Native.Nat.{ℕ, ◌<◌}
use mathlib.Core.Bool.{Bool, true, false}
use mathlib.Core.Path.{◌≡◌, refl, sym, ap, ◌∙◌}
use lib.Seq.{set-set}
use borrow.Author.Tests.{eq-eqb}
use Rattle.answers.proofs.Tests.{both_true}
use Rattle.answers.specs.Order.{pick}
use Rattle.counters.specs.Sizes.{Size}
use Rattle.objects.specs.Places.{settled, restores, restored}
use Rattle.objects.specs.declared.Object.{Object}
use Rattle.objects.specs.declared.Pair.{Pair}
use Rattle.rules.specs.Tables.{State, object_at, pair_at, with_object}
use Rattle.rules.specs.Walks.{each_below}
use Rattle.rules.specs.Effects.{spoil_one, spoil_others, restore_one, end_one, end_turn}
use Rattle.rules.proofs.Stores.{Sized, object_kept}
use Rattle.rules.proofs.Walking.{each_zero}
use Rattle.rules.proofs.Restored.{restore_keeps, restore_object}
use Rattle.leaf_end.specs.Serving.Ends.{ended_object, slots_asked}
use Rattle.leaf_end.proofs.Spoils.{spoils_beside}

end_at : (z : Size) (s o : ℕ) (v : State) (pair : Pair) (object : Object) → pair_at z v s o ≡ pair → object_at v o ≡ object → pair.declared ≡ true
    → end_one z s o v ≡ with_object v o (settled z.slots pair object)
end_at z s o v pair object own there declared =
    (λ i. pick (own i).declared (with_object v o (settled z.slots (own i) (there i))) v)
    ∙ ap (λ (d : Bool). pick d (with_object v o (settled z.slots pair object)) v) declared

module _ (z : Size) (s o : ℕ) (u : State) (sized : Sized z u) (inside : o < z.objects) where
  -- an object that no rollback restores
  plain : with_object u o (pick (pair_at z u s o).declared (settled z.slots (pair_at z u s o) (object_at u o)) (object_at u o)) ≡ end_one z s o u
  plain = go (pair_at z u s o).declared refl
    where
      go : (d : Bool) → (pair_at z u s o).declared ≡ d
          → with_object u o (pick (pair_at z u s o).declared (settled z.slots (pair_at z u s o) (object_at u o)) (object_at u o)) ≡ end_one z s o u
      go true e = rw e
      go false e = rw e (object_kept u o)

  -- one that it does
  back : restores (pair_at z u s o) ≡ true
      → each_below z.slots (λ r w. spoil_one z s o r w) (with_object u o (settled z.slots (pair_at z u s o) (restored (pair_at z u s o) (object_at u o))))
      ≡ end_one z s o (restore_one z s o u)
  back e =
      let pair : Pair = pair_at z u s o in
      let word : Object = restored pair (object_at u o) in
      let object : Object = settled z.slots pair word in
      let v : State = spoil_others z s o (with_object u o word) in
      let is-v : restore_one z s o u ≡ v = rw e in
      let declared : pair.declared ≡ true = (both_true pair.declared _ e).0 in
      let own : pair_at z v s o ≡ pair = ap (λ (w : State). pair_at z w s o) (sym is-v) ∙ (restore_keeps z u sized s o inside).own o inside in
      let there : object_at v o ≡ word = ap (λ (w : State). object_at w o) (sym is-v) ∙ restore_object z u sized s o inside o ∙ rw (e, eq-eqb o o refl) in
      let twice : with_object (with_object u o word) o object ≡ with_object u o object =
      λ i. record { objects = set-set u.objects o word object i; live = u.live; pairs = u.pairs } in
      let ends : end_one z s o v ≡ with_object v o object = end_at z s o v pair word own there declared in
      ap (each_below z.slots (λ r w. spoil_one z s o r w)) (sym twice)
      ∙ sym (spoils_beside z s o object (with_object u o word) z.slots)
      ∙ sym ends
      ∙ ap (end_one z s o) (sym is-v)

  pub turn_ended : (rollback : Bool)
      → each_below (slots_asked z.slots rollback (pair_at z u s o)) (λ r w. spoil_one z s o r w) (with_object u o (ended_object z.slots rollback (pair_at z u s o) (object_at u o)))
      ≡ end_turn z rollback s o u
  turn_ended false = each_zero (λ r w. spoil_one z s o r w) _ ∙ plain
  turn_ended true = go (restores (pair_at z u s o)) refl
    where
      go : (b : Bool) → restores (pair_at z u s o) ≡ b
          → each_below (slots_asked z.slots true (pair_at z u s o)) (λ r w. spoil_one z s o r w) (with_object u o (ended_object z.slots true (pair_at z u s o) (object_at u o)))
          ≡ end_turn z true s o u
      go true e =
          let pair : Pair = pair_at z u s o in
          let declared : pair.declared ≡ true = (both_true pair.declared _ e).0 in
          let all : slots_asked z.slots true pair ≡ z.slots = ap (λ (b : Bool). pick b z.slots 0) e in
          let object : ended_object z.slots true pair (object_at u o) ≡ settled z.slots pair (restored pair (object_at u o)) =
          λ i. pick (declared i) (settled z.slots pair (pick (e i) (restored pair (object_at u o)) (object_at u o))) (object_at u o) in
          (λ i. each_below (all i) (λ r w. spoil_one z s o r w) (with_object u o (object i))) ∙ back e
      go false e = rw e (each_zero (λ r w. spoil_one z s o r w) _ ∙ plain)
