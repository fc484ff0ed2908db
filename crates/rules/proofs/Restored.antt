-- What is read after one object is restored: its word, and which other slots become spoiled on it.
use Prim.Native.Nat.{ℕ, ◌<◌}
use mathlib.Core.Bool.{Bool, true, false, not, ◌&&◌}
use mathlib.Core.Path.{◌≡◌, refl, sym, ◌∙◌}
use lib.Dec.{eqb}
use borrow.Author.Tests.{eqb-true, eqb-false, eq-eqb, ne_eqb, not-true}
use Rattle.answers.specs.Order.{pick}
use Rattle.counters.specs.Sizes.{Size}
use Rattle.objects.specs.Places.{restores, restored, spoiled_pair}
use Rattle.objects.specs.declared.Pair.{Pair}
use Rattle.rules.specs.Tables.{State, object_at, live_at, pair_at, with_object, with_pair}
use Rattle.rules.specs.Effects.{spoil_one, spoil_others, restore_one}
use Rattle.answers.proofs.Tests.{both_true}
use Rattle.rules.proofs.Picking.{pick_when, pick_seen, pick_same, pick_both, pick_moved}
use Rattle.rules.proofs.Stores.{Sized, pair_after, object_after, sized_pair, sized_object}
use Rattle.rules.proofs.Walking.{each_keeps, each_sees}

-- what no turn of an end changes: the sizes, the live marks and the pairs of the slot that ends
pub record Underway (z : Size) (s : ℕ) (t u : State) : Type 0 where
  pub sized : Sized z u
  pub live : u.live ≡ t.live
  pub own : (q : ℕ) → q < z.objects → pair_at z u s q ≡ pair_at z t s q

-- another live slot that has called the object
abbrev pub has_called : Size → State → ℕ → ℕ → ℕ → Bool
has_called z t s r o = live_at t r && (not (eqb r s) && (pair_at z t r o).called)

-- a pair is spoiled on object o: the test made at o is the test made at q where they are one
spoiled_there : (f : ℕ → Pair) (live other : Bool) (q o : ℕ)
    → pick (live && (other && (f o).called)) (pick (eqb q o) (spoiled_pair (f o)) (f q)) (f q)
    ≡ pick (eqb q o && (live && (other && (f q).called))) (spoiled_pair (f q)) (f q)
spoiled_there f live other q o = by (eqb q o) refl
  where
    by : (same : Bool) → eqb q o ≡ same
        → pick (live && (other && (f o).called)) (pick (eqb q o) (spoiled_pair (f o)) (f q)) (f q)
        ≡ pick (eqb q o && (live && (other && (f q).called))) (spoiled_pair (f q)) (f q)
    by true e = rw (e, eqb-true q o e)
    by false e = rw e (pick_same (live && (other && (f o).called)) (f q))

module _ (z : Size) (t : State) (sized : Sized z t) (s o : ℕ) (inside : o < z.objects) where
  spoil_keeps : (r : ℕ) (u : State) → r < z.slots → Underway z s t u → Underway z s t (spoil_one z s o r u)
  spoil_keeps r u slot kept = pick_when (Underway z s t) (has_called z u s r o) spoils (λ e. kept)
    where
      spoils : has_called z u s r o ≡ true → Underway z s t (with_pair z u r o (spoiled_pair (pair_at z u r o)))
      spoils e =
          let called : Bool = (pair_at z u r o).called in
          let other : eqb r s ≡ false = not-true (eqb r s) (both_true (not (eqb r s)) called (both_true (live_at u r) (not (eqb r s) && called) e).1).0 in
          record {
            sized = sized_pair z u kept.sized r o (spoiled_pair (pair_at z u r o));
            live = kept.live;
            own =
                λ q below.
                pair_after z u kept.sized r o s q (spoiled_pair (pair_at z u r o)) slot inside below
                ∙ rw (ne_eqb s r (λ same. eqb-false r s other (sym same))) (kept.own q below);
          }

  spoil_walks : Underway z s t (spoil_others z s o t)
  spoil_walks =
      each_keeps (Underway z s t) (λ r u. spoil_one z s o r u) t (record { sized = sized; live = refl; own = λ q below. refl }) z.slots spoil_keeps

  spoil_objects : (spoil_others z s o t).objects ≡ t.objects
  spoil_objects =
      each_keeps (λ u. u.objects ≡ t.objects) (λ r u. spoil_one z s o r u) t refl z.slots
      (λ r u below same. pick_when (λ (v : State). v.objects ≡ t.objects) (has_called z u s r o) (λ e. same) (λ e. same))

  -- these are spoiled on the object, and no other pair changes
  pub spoil_pairs : (r q : ℕ) → r < z.slots → q < z.objects
      → pair_at z (spoil_others z s o t) r q ≡ pick (eqb q o && has_called z t s r q) (spoiled_pair (pair_at z t r q)) (pair_at z t r q)
  spoil_pairs r q slot below =
      each_sees (Underway z s t) (λ r u. spoil_one z s o r u) t (record { sized = sized; live = refl; own = λ q below. refl }) (λ u. pair_at z u r q)
      z.slots r (λ pair. pick (eqb q o && (live_at t r && (not (eqb r s) && pair.called))) (spoiled_pair pair) pair) slot spoil_keeps elsewhere here
    where
      elsewhere : (j : ℕ) (u : State) → j < z.slots → (j ≡ r → ⊥) → Underway z s t u → pair_at z (spoil_one z s o j u) r q ≡ pair_at z u r q
      elsewhere j u j-slot apart kept =
          pick_when (λ v. pair_at z v r q ≡ pair_at z u r q) (has_called z u s j o)
          (λ e. pair_after z u kept.sized j o r q (spoiled_pair (pair_at z u j o)) j-slot inside below ∙ rw (ne_eqb r j (λ same. apart (sym same))))
          (λ e. refl)

      here : (u : State) → Underway z s t u
          → pair_at z (spoil_one z s o r u) r q
          ≡ pick (eqb q o && (live_at t r && (not (eqb r s) && (pair_at z u r q).called))) (spoiled_pair (pair_at z u r q)) (pair_at z u r q)
      here u kept =
          pick_seen (λ v. pair_at z v r q) (has_called z u s r o) (with_pair z u r o (spoiled_pair (pair_at z u r o))) u
          ∙ rw (pair_after z u kept.sized r o r q (spoiled_pair (pair_at z u r o)) slot inside below, eq-eqb r r refl, kept.live)
          (spoiled_there (pair_at z u r) (live_at t r) (not (eqb r s)) q o)

module _ (z : Size) (t : State) (sized : Sized z t) (s o : ℕ) (inside : o < z.objects) where
  -- the tables with the word put back
  with_word : State
  with_word = with_object t o (restored (pair_at z t s o) (object_at t o))

  with_word_sized : Sized z with_word
  unfolding with_word
  with_word_sized = sized_object z t sized o (restored (pair_at z t s o) (object_at t o))

  -- the sizes, the live marks and the slot's own pairs stay
  pub restore_keeps : Underway z s t (restore_one z s o t)
  unfolding with_word
  restore_keeps =
      let walked : Underway z s with_word (spoil_others z s o with_word) = spoil_walks z with_word with_word_sized s o inside in
      pick_when (Underway z s t) (restores (pair_at z t s o))
      (λ e. record { sized = walked.sized; live = walked.live; own = walked.own })
      (λ e. record { sized = sized; live = refl; own = λ q below. refl })

  -- the word becomes the saved word
  pub restore_object : (q : ℕ)
      → object_at (restore_one z s o t) q
      ≡ pick (restores (pair_at z t s o) && eqb q o) (restored (pair_at z t s o) (object_at t q)) (object_at t q)
  unfolding with_word
  restore_object q =
      let pair : Pair = pair_at z t s o in
      pick_seen (λ u. object_at u q) (restores pair) (spoil_others z s o with_word) t
      ∙ rw (
        spoil_objects z with_word with_word_sized s o inside,
        object_after z t sized o q (restored pair (object_at t o)) inside,
        pick_moved (λ k. restored pair (object_at t k)) (object_at t q) (eqb q o) q o (eqb-true q o),
      )
      (pick_both (restores pair) (eqb q o) (restored pair (object_at t q)) (object_at t q))

  -- and others that have called become spoiled
  pub restore_pairs : (r q : ℕ) → r < z.slots → q < z.objects
      → pair_at z (restore_one z s o t) r q
      ≡ pick (restores (pair_at z t s o) && (eqb q o && has_called z t s r q)) (spoiled_pair (pair_at z t r q)) (pair_at z t r q)
  unfolding with_word
  restore_pairs r q slot below =
      pick_seen (λ u. pair_at z u r q) (restores (pair_at z t s o)) (spoil_others z s o with_word) t
      ∙ rw (spoil_pairs z with_word with_word_sized s o inside r q slot below)
      (pick_both (restores (pair_at z t s o)) (eqb q o && has_called z t s r q) (spoiled_pair (pair_at z t r q)) (pair_at z t r q))
