-- What is read after a commit or a rollback, place by place.
use Prim.Native.Nat.{ℕ, ◌<◌}
use mathlib.Core.Bool.{Bool, true, false, not, ◌&&◌}
use mathlib.Core.List.{List}
use mathlib.Core.Path.{◌≡◌, refl, sym, ap, ◌∙◌}
use lib.Dec.{eqb}
use lib.ListN.{get_or}
use borrow.Author.Tests.{eqb-true, eq-eqb, ne_eqb}
use Rattle.answers.specs.Order.{pick}
use Rattle.counters.specs.Sizes.{Size}
use Rattle.objects.specs.Places.{no_pair, settled, restores, restored, spoiled_pair}
use Rattle.objects.specs.declared.Object.{Object}
use Rattle.objects.specs.declared.Pair.{Pair}
use Rattle.rules.specs.Tables.{State, no_object, object_at, live_at, pair_at, with_object}
use Rattle.rules.specs.Walks.{each_below}
use Rattle.rules.specs.Effects.{clear_slot, restore_one, end_one, end_turn, end_effect}
use Rattle.rules.proofs.Picking.{and_false, and_true, pick_when, pick_seen, pick_both, pick_moved}
use Rattle.rules.proofs.Stores.{Sized, object_after, live_after, sized_object, sized_live}
use Rattle.rules.proofs.Walking.{Keeps, each_keeps, each_sees}
use Rattle.rules.proofs.Cleared.{clear_objects, clear_live, clear_sized, clear_pairs}
use Rattle.rules.proofs.Restored.{Underway, has_called, restore_keeps, restore_object, restore_pairs}

-- what an end makes of an object: a rollback restores its word first, where it restores it
abbrev pub ended_at : Size → Bool → Pair → Object → Object
ended_at z rollback pair object = pick pair.declared (settled z.slots pair (pick (rollback && restores pair) (restored pair object) object)) object

-- and of a pair of another slot on an object: a rollback that restores the object spoils it
abbrev pub spoils : Size → Bool → State → ℕ → ℕ → ℕ → Bool
spoils z rollback t s r q = rollback && (restores (pair_at z t s q) && has_called z t s r q)

underway_then : {z : Size} {s : ℕ} {t u v : State} → Underway z s t u → Underway z s u v → Underway z s t v
underway_then first then =
    record { sized = then.sized; live = then.live ∙ first.live; own = λ q below. then.own q below ∙ first.own q below }

committed_there : (slots : ℕ) (pair : Pair) (x : Object) (here : Bool)
    → pick (pair.declared && here) (settled slots pair x) x ≡ pick here (pick pair.declared (settled slots pair x) x) x
committed_there slots pair x true = rw (and_true pair.declared)
committed_there slots pair x false = rw (and_false pair.declared)

rolled_back_there : (slots : ℕ) (pair : Pair) (x : Object) (here : Bool)
    → pick (pair.declared && here) (settled slots pair (pick (restores pair && here) (restored pair x) x)) (pick (restores pair && here) (restored pair x) x)
    ≡ pick here (pick pair.declared (settled slots pair (pick (restores pair) (restored pair x) x)) x) x
rolled_back_there slots pair x false = rw (and_false pair.declared, and_false (restores pair))
rolled_back_there slots pair x true = rw (and_true pair.declared, and_true (restores pair)) (by pair.declared refl)
  where
    by : (d : Bool) → pair.declared ≡ d
        → pick pair.declared (settled slots pair (pick (restores pair) (restored pair x) x)) (pick (restores pair) (restored pair x) x)
        ≡ pick pair.declared (settled slots pair (pick (restores pair) (restored pair x) x)) x
    by true e = rw e
    by false e = rw e

module _ (z : Size) (s o : ℕ) (inside : o < z.objects) (t : State) (sized : Sized z t) where
  one_keeps : Underway z s t (end_one z s o t)
  one_keeps =
      pick_when (Underway z s t) (pair_at z t s o).declared
      (λ e. record { sized = sized_object z t sized o (settled z.slots (pair_at z t s o) (object_at t o)); live = refl; own = λ q below. refl })
      (λ e. record { sized = sized; live = refl; own = λ q below. refl })

  one_object : (q : ℕ)
      → object_at (end_one z s o t) q
      ≡ pick ((pair_at z t s o).declared && eqb q o) (settled z.slots (pair_at z t s o) (object_at t q)) (object_at t q)
  one_object q =
      let pair : Pair = pair_at z t s o in
      pick_seen (λ u. object_at u q) pair.declared (with_object t o (settled z.slots pair (object_at t o))) t
      ∙ rw (
        object_after z t sized o q (settled z.slots pair (object_at t o)) inside,
        pick_moved (λ k. settled z.slots pair (object_at t k)) (object_at t q) (eqb q o) q o (eqb-true q o),
      )
      (pick_both pair.declared (eqb q o) (settled z.slots pair (object_at t q)) (object_at t q))

  one_pairs : (end_one z s o t).pairs ≡ t.pairs
  one_pairs = pick_when (λ (u : State). u.pairs ≡ t.pairs) (pair_at z t s o).declared (λ e. refl) (λ e. refl)

module _ (z : Size) (s : ℕ) where
  turn_keeps : (rollback : Bool) (t : State) (o : ℕ) (u : State) → o < z.objects → Underway z s t u → Underway z s t (end_turn z rollback s o u)
  turn_keeps false t o u inside kept = underway_then kept (one_keeps z s o inside u kept.sized)
  turn_keeps true t o u inside kept =
      let back : Underway z s u (restore_one z s o u) = restore_keeps z u kept.sized s o inside in
      underway_then kept (underway_then back (one_keeps z s o inside (restore_one z s o u) back.sized))

  turn_object : (rollback : Bool) (o : ℕ) → o < z.objects → (u : State) → Sized z u → (q : ℕ)
      → object_at (end_turn z rollback s o u) q ≡ pick (eqb q o) (ended_at z rollback (pair_at z u s o) (object_at u q)) (object_at u q)
  turn_object false o inside u sized q = one_object z s o inside u sized q ∙ committed_there z.slots (pair_at z u s o) (object_at u q) (eqb q o)
  turn_object true o inside u sized q =
      let back : Underway z s u (restore_one z s o u) = restore_keeps z u sized s o inside in
      one_object z s o inside (restore_one z s o u) back.sized q
      ∙ rw (back.own o inside, restore_object z u sized s o inside q)
      (rolled_back_there z.slots (pair_at z u s o) (object_at u q) (eqb q o))

  turn_pairs : (rollback : Bool) (o : ℕ) → o < z.objects → (u : State) → Sized z u → (r q : ℕ) → r < z.slots → q < z.objects
      → pair_at z (end_turn z rollback s o u) r q
      ≡ pick (rollback && (restores (pair_at z u s o) && (eqb q o && has_called z u s r q))) (spoiled_pair (pair_at z u r q)) (pair_at z u r q)
  turn_pairs false o inside u sized r q slot below = rw (one_pairs z s o inside u sized)
  turn_pairs true o inside u sized r q slot below =
      let back : Underway z s u (restore_one z s o u) = restore_keeps z u sized s o inside in
      rw (one_pairs z s o inside (restore_one z s o u) back.sized) (restore_pairs z u sized s o inside r q slot below)

-- the tables u after an end in t
pub record Ended (z : Size) (rollback : Bool) (s : ℕ) (t u : State) : Type 0 where
  pub sized : Sized z u
  pub object : (q : ℕ) → q < z.objects → object_at u q ≡ ended_at z rollback (pair_at z t s q) (object_at t q)
  pub pair : (r q : ℕ) → r < z.slots → q < z.objects
      → pair_at z u r q ≡ pick (eqb r s) no_pair (pick (spoils z rollback t s r q) (spoiled_pair (pair_at z t r q)) (pair_at z t r q))
  pub live : (r : ℕ) → live_at u r ≡ pick (eqb r s) false (live_at t r)

module _ (z : Size) (t : State) (sized : Sized z t) (rollback : Bool) (s : ℕ) where
  every : State
  every = each_below z.objects (λ o u. end_turn z rollback s o u) t

  begun : Underway z s t t
  begun = record { sized = sized; live = refl; own = λ q below. refl }

  keeps : Keeps (Underway z s t) z.objects (λ o u. end_turn z rollback s o u)
  keeps o u inside kept = turn_keeps z s rollback t o u inside kept

  every_kept : Underway z s t every
  unfolding every
  every_kept = each_keeps (Underway z s t) (λ o u. end_turn z rollback s o u) t begun z.objects keeps

  every_object : (q : ℕ) → q < z.objects → object_at every q ≡ ended_at z rollback (pair_at z t s q) (object_at t q)
  unfolding every
  every_object q below =
      each_sees (Underway z s t) (λ o u. end_turn z rollback s o u) t begun (λ u. object_at u q) z.objects q
      (λ x. ended_at z rollback (pair_at z t s q) x) below keeps
      (λ o u inside apart kept. turn_object z s rollback o inside u kept.sized q ∙ rw (ne_eqb q o (λ same. apart (sym same))))
      (λ u kept. turn_object z s rollback q below u kept.sized q ∙ rw (eq-eqb q q refl, kept.own q below))

  every_pairs : (r q : ℕ) → r < z.slots → q < z.objects
      → pair_at z every r q ≡ pick (spoils z rollback t s r q) (spoiled_pair (pair_at z t r q)) (pair_at z t r q)
  unfolding every
  every_pairs r q slot below =
      each_sees (Underway z s t) (λ o u. end_turn z rollback s o u) t begun (λ u. pair_at z u r q) z.objects q
      (λ pair. pick (rollback && (restores (pair_at z t s q) && (live_at t r && (not (eqb r s) && pair.called)))) (spoiled_pair pair) pair) below keeps
      (λ o u inside apart kept.
      turn_pairs z s rollback o inside u kept.sized r q slot below
      ∙ rw (ne_eqb q o (λ same. apart (sym same)), and_false (restores (pair_at z u s o)), and_false rollback))
      (λ u kept. turn_pairs z s rollback q below u kept.sized r q slot below ∙ rw (eq-eqb q q refl, kept.own q below, kept.live))

  -- the effect of an end, place by place
  pub end_effect_lem : s < z.slots → Ended z rollback s t (end_effect z rollback s t)
  unfolding every
  end_effect_lem slot =
      let cleared : Sized z (clear_slot z s every) = clear_sized z every s every_kept.sized in
      record {
        sized = sized_live z (clear_slot z s every) cleared s false;
        object = λ q below. ap (λ (l : List Object). get_or l q no_object) (clear_objects z every s) ∙ every_object q below;
        pair = λ r q inside below. clear_pairs z every s every_kept.sized slot r q below ∙ rw (every_pairs r q inside below);
        live =
            λ r.
            live_after z (clear_slot z s every) cleared s r false slot
            ∙ ap (λ (l : List Bool). pick (eqb r s) false (get_or l r false)) (clear_live z every s ∙ every_kept.live);
      }
