-- The walks along the marks: a slot is doomed by its row of spoiled marks, and a spoiled mark stored is a caller spoiled.
use Prim.Native.Nat.{ℕ, ◌+◌, ◌*◌, ◌<◌}
use mathlib.Core.Bool.{Bool, true, false, ◌&&◌}
use mathlib.Core.List.{List}
use mathlib.Core.Path.{◌≡◌, sym, ap, ◌∙◌}
use native.Mathlib.Omega.{arith}
use lib.ListN.{length, set}
use lib.Seq.{get_or-set_same, get_or-set_other}
use Rattle.answers.specs.Order.{pick}
use Rattle.counters.specs.Sizes.{Size}
use Rattle.objects.specs.Places.{spoiled_pair}
use Rattle.objects.specs.declared.Pair.{Pair}
use Rattle.rules.specs.Refusing.{doomed}
use Rattle.rules.specs.Tables.{State, pair_at, with_pair}
use Rattle.rules.specs.Walks.{any_below, each_below}
use Rattle.rules.proofs.Stores.{place_inside}
use Rattle.rules.proofs.Walking.{any_agrees, each_next}
use Rattle.tables.specs.Places.{private_place, supremum_place, declared_place, called_place, spoiled_place, marks_long}
use Rattle.tables.specs.Views.{cell, mark, pair_from, objects_of, live_of, pairs_of, view}
use Rattle.tables.specs.Serving.Changes.{spoil_caller, MarksBecome}
use Rattle.tables.proofs.Tabulated.{tab_alike, tab_stored}
use Rattle.tables.proofs.Viewing.{live_seen, pair_seen_lem}

abbrev with_spoiled : Bool → Pair → Pair
with_spoiled x p =
    record {
      declared = p.declared;
      supremum = p.supremum;
      private = p.private;
      count = p.count;
      called = p.called;
      spoiled = x;
      saved = p.saved;
    }

module _ (z : Size) (w b : List ℕ) (k : List Bool) where
  -- the row of spoiled marks from a slot's first pair on
  pub doomed_seen : (s from : ℕ) → s < z.slots → from ≡ spoiled_place z (s * z.objects + 0)
      → any_below z.objects (λ j. mark k (from + j)) ≡ doomed z (view z w b k) s
  doomed_seen s from slot is-from =
      any_agrees z.objects (λ j. mark k (from + j)) (λ j. (pair_at z (view z w b k) s j).spoiled)
      (λ j below.
      let there : from + j ≡ spoiled_place z (s * z.objects + j) = omega (arith, is-from) in
      ap (mark k) there ∙ ap (λ (p : Pair). p.spoiled) (sym (pair_seen_lem z w b k s j slot below)))

  -- a spoiled mark stored
  module _ (long : length k ≡ marks_long z) (r o : ℕ) (slot : r < z.slots) (object : o < z.objects) where
    pair_inside : r * z.objects + o < z.slots * z.objects
    pair_inside = place_inside z.objects z.slots r o slot object

    pair_spoiled : (x : Bool) → view z w b (set k (spoiled_place z (r * z.objects + o)) x)
        ≡ with_pair z (view z w b k) r o (with_spoiled x (pair_from z w b k (r * z.objects + o)))
    pair_spoiled x =
        let i : ℕ = r * z.objects + o in
        let at : ℕ = spoiled_place z i in
        let n : List Bool = set k at x in
        let beside : (j : ℕ) → (j ≡ at → ⊥) → mark n j ≡ mark k j = λ j apart. get_or-set_other k at j x false apart in
        let live : live_of z n ≡ live_of z k = tab_alike z.slots (λ s. mark n s) (λ s. mark k s) (λ s within. beside s (λ same. omega arith)) in
        let there : mark n at ≡ x = get_or-set_same k at x false (omega (arith, long, pair_inside)) in
        let pairs : pairs_of z w b n ≡ set (pairs_of z w b k) i (with_spoiled x (pair_from z w b k i)) =
        tab_stored (z.slots * z.objects) (λ j. pair_from z w b k j) (λ j. pair_from z w b n j) i (with_spoiled x (pair_from z w b k i)) pair_inside
        (λ t.
        record {
          declared = beside (declared_place z i) (λ same. omega (arith, pair_inside)) t;
          supremum = cell b (supremum_place i);
          private = record { 0 = cell w (private_place z i) };
          count = record { 0 = cell b (supremum_place i + 1) };
          called = beside (called_place z i) (λ same. omega (arith, pair_inside)) t;
          spoiled = there t;
          saved = cell w (private_place z i + 1);
        })
        (λ j within apart t.
        record {
          declared = beside (declared_place z j) (λ same. omega arith) t;
          supremum = cell b (supremum_place j);
          private = record { 0 = cell w (private_place z j) };
          count = record { 0 = cell b (supremum_place j + 1) };
          called = beside (called_place z j) (λ same. omega arith) t;
          spoiled = beside (spoiled_place z j) (λ same. apart (omega arith)) t;
          saved = cell w (private_place z j + 1);
        }) in
        λ t. record { objects = objects_of z w; live = live t; pairs = pairs t }

    -- what a turn of the walk along the callers asks, as the rules ask it
    abbrev is_caller : Bool
    is_caller = mark k r && mark k (called_place z (r * z.objects + o))

    turn : (test : Bool) → is_caller ≡ test
        → spoil_caller z o r (view z w b k) ≡ pick test (with_pair z (view z w b k) r o (spoiled_pair (pair_from z w b k (r * z.objects + o)))) (view z w b k)
    turn test e =
        let t : State = view z w b k in
        let seen : pair_at z t r o ≡ pair_from z w b k (r * z.objects + o) = pair_seen_lem z w b k r o slot object in
        (λ j. pick (live_seen z w b k r slot j && (seen j).called) (with_pair z t r o (spoiled_pair (seen j))) t)
        ∙ ap (λ (x : Bool). pick x (with_pair z t r o (spoiled_pair (pair_from z w b k (r * z.objects + o)))) t) e

    module _ (called : ℕ) (is_called : called ≡ called_place z (r * z.objects + o)) where
      pub caller_spoiled : (spoiled : ℕ) → spoiled ≡ spoiled_place z (r * z.objects + o) → (mark k r && mark k called) ≡ true
          → view z w b (set k spoiled true) ≡ spoil_caller z o r (view z w b k)
      caller_spoiled spoiled is_spoiled e =
          ap (λ (at : ℕ). view z w b (set k at true)) is_spoiled ∙ pair_spoiled true ∙ sym (turn true ((λ j. mark k r && mark k (sym is_called j)) ∙ e))

      pub other_kept : (mark k r && mark k called) ≡ false → view z w b k ≡ spoil_caller z o r (view z w b k)
      other_kept e = sym (turn false ((λ j. mark k r && mark k (sym is_called j)) ∙ e))

-- one turn more of the walk along an object's callers
module _ (z : Size) (o r : ℕ) (k₀ k : List Bool) (spoiled : MarksBecome z k₀ k (each_below r (λ s u. spoil_caller z o s u))) where
  pub spoils_on : (n : List Bool) → length n ≡ length k → ((w b : List ℕ) → view z w b n ≡ spoil_caller z o r (view z w b k))
      → MarksBecome z k₀ n (each_below (r + 1) (λ s u. spoil_caller z o s u))
  spoils_on n long one = (
    long ∙ spoiled.0,
    λ w b. one w b ∙ ap (spoil_caller z o r) (spoiled.1 w b) ∙ sym (each_next (λ s u. spoil_caller z o s u) (view z w b k₀) r),
  )
