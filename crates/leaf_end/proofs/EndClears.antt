-- An end may clear the slot's pairs turn by turn: the turn of an object neither reads nor changes the slot's pair on an object before it.
use Prim.Native.Nat.{ℕ, zero, suc, ◌+◌, ◌*◌, ◌≤◌, ◌<◌}
use mathlib.Core.Bool.{Bool, true, false, not, ◌&&◌}
use mathlib.Core.Logic.{◌≢◌}
use mathlib.Core.Path.{◌≡◌, refl, sym, ap, ◌∙◌}
use native.Mathlib.Omega.{arith}
use lib.Dec.{eqb}
use lib.Seq.{set_comm}
use Rattle.answers.specs.Order.{pick}
use Rattle.counters.specs.Sizes.{Size}
use Rattle.objects.specs.Places.{no_pair, settled, restores, restored, spoiled_pair}
use Rattle.objects.specs.declared.Pair.{Pair}
use Rattle.leaf_end.specs.Serving.Ends.{end_cleared}
use Rattle.rules.proofs.Cleared.{cleared_to}
use Rattle.rules.specs.Tables.{State, object_at, live_at, pair_at, with_object, with_pair}
use Rattle.rules.specs.Walks.{each_below}
use Rattle.rules.specs.Effects.{spoil_one, spoil_others, restore_one, end_one, end_turn}
use Rattle.rules.proofs.Picking.{pick_seen}
use Rattle.rules.proofs.Restored.{has_called}
use Rattle.rules.proofs.Stores.{place_apart, pair_elsewhere}

module _ (z : Size) (s k o : ℕ) (below : k < z.objects) (inside : o < z.objects) (apart : k ≢ o) where
  read_beside : (r : ℕ) (t : State) → pair_at z (with_pair z t s k no_pair) r o ≡ pair_at z t r o
  read_beside r t = pair_elsewhere z t s k r o no_pair below inside (λ same. apart (sym same.1))

  store_beside : (r : ℕ) (pair : Pair) (t : State) → with_pair z (with_pair z t s k no_pair) r o pair ≡ with_pair z (with_pair z t r o pair) s k no_pair
  store_beside r pair t =
      let elsewhere : s * z.objects + k ≢ r * z.objects + o = λ same. apart (place_apart z.objects s r k o below inside same).1 in
      λ i. record { objects = t.objects; live = t.live; pairs = set_comm t.pairs (s * z.objects + k) (r * z.objects + o) no_pair pair elsewhere i }

  spoil_beside : (r : ℕ) (t : State) → spoil_one z s o r (with_pair z t s k no_pair) ≡ with_pair z (spoil_one z s o r t) s k no_pair
  spoil_beside r t =
      let spoiled : Pair = spoiled_pair (pair_at z t r o) in
      (λ i. pick (live_at t r && (not (eqb r s) && (read_beside r t i).called)) (with_pair z (with_pair z t s k no_pair) r o (spoiled_pair (read_beside r t i))) (with_pair z t s k no_pair))
      ∙ ap (λ (u : State). pick (has_called z t s r o) u (with_pair z t s k no_pair)) (store_beside r spoiled t)
      ∙ sym (pick_seen (λ u. with_pair z u s k no_pair) (has_called z t s r o) (with_pair z t r o spoiled) t)

  spoils_beside : (n : ℕ) (t : State)
      → each_below n (λ r u. spoil_one z s o r u) (with_pair z t s k no_pair) ≡ with_pair z (each_below n (λ r u. spoil_one z s o r u) t) s k no_pair
  unfolding each_below
  spoils_beside zero t = refl
  spoils_beside (suc n) t = ap (spoil_one z s o n) (spoils_beside n t) ∙ spoil_beside n (each_below n (λ r u. spoil_one z s o r u) t)

  restore_beside : (t : State) → restore_one z s o (with_pair z t s k no_pair) ≡ with_pair z (restore_one z s o t) s k no_pair
  restore_beside t =
      let word : State = with_object t o (restored (pair_at z t s o) (object_at t o)) in
      (λ i. pick (restores (read_beside s t i)) (spoil_others z s o (with_pair z (with_object t o (restored (read_beside s t i) (object_at t o))) s k no_pair)) (with_pair z t s k no_pair))
      ∙ ap (λ (u : State). pick (restores (pair_at z t s o)) u (with_pair z t s k no_pair)) (spoils_beside z.slots word)
      ∙ sym (pick_seen (λ u. with_pair z u s k no_pair) (restores (pair_at z t s o)) (spoil_others z s o word) t)

  end_beside_lem : (t : State) → end_one z s o (with_pair z t s k no_pair) ≡ with_pair z (end_one z s o t) s k no_pair
  end_beside_lem t =
      (λ i. pick (read_beside s t i).declared (with_pair z (with_object t o (settled z.slots (read_beside s t i) (object_at t o))) s k no_pair) (with_pair z t s k no_pair))
      ∙ sym (pick_seen (λ u. with_pair z u s k no_pair) (pair_at z t s o).declared (with_object t o (settled z.slots (pair_at z t s o) (object_at t o))) t)

  turn_beside : (rollback : Bool) (t : State) → end_turn z rollback s o (with_pair z t s k no_pair) ≡ with_pair z (end_turn z rollback s o t) s k no_pair
  turn_beside false t = end_beside_lem t
  turn_beside true t = ap (end_one z s o) (restore_beside t) ∙ end_beside_lem (restore_one z s o t)

module _ (z : Size) (rollback : Bool) (s : ℕ) where
  turn_behind : (o k : ℕ) (t : State) → o < z.objects → k ≤ o → end_turn z rollback s o (cleared_to z s k t) ≡ cleared_to z s k (end_turn z rollback s o t)
  unfolding each_below
  turn_behind o zero t inside before = refl
  turn_behind o (suc k) t inside before =
      turn_beside z s k o (omega arith) inside (omega arith) rollback (cleared_to z s k t)
      ∙ ap (λ (u : State). with_pair z u s k no_pair) (turn_behind o k t inside (omega arith))

  -- turn by turn or after all turns, the slot's pairs are cleared alike
  pub cleared_behind : (n : ℕ) (t : State) → n ≤ z.objects
      → each_below n (λ o u. end_cleared z rollback s o u) t ≡ cleared_to z s n (each_below n (λ o u. end_turn z rollback s o u) t)
  unfolding each_below
  cleared_behind zero t inside = refl
  cleared_behind (suc n) t inside =
      ap (end_cleared z rollback s n) (cleared_behind n t (omega arith))
      ∙ ap (λ (u : State). with_pair z u s n no_pair)
      (turn_behind n n (each_below n (λ o u. end_turn z rollback s o u) t) (omega arith) (omega arith))
