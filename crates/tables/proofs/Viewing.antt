-- What the tables show is what stands in the lists, and a store in the lists is the store in the tables that they stand for.
use Prim.Native.Nat.{ℕ, ◌+◌, ◌*◌, ◌<◌, ◌≤◌}
use mathlib.Core.Bool.{Bool, false}
use mathlib.Core.List.{List}
use mathlib.Core.Path.{◌≡◌, sym, ap, ◌∙◌}
use native.Mathlib.Omega.{arith}
use lib.ListN.{length, set}
use lib.Seq.{get_or-set_same, get_or-set_other}
use Rattle.counters.specs.Sizes.{Size}
use Rattle.objects.specs.Places.{no_pair}
use Rattle.objects.specs.declared.Object.{Object}
use Rattle.objects.specs.declared.Pair.{Pair}
use Rattle.rules.specs.Tables.{no_object, object_at, live_at, pair_at, with_object, with_live, with_pair}
use Rattle.rules.proofs.Stores.{Sized, place_inside}
use Rattle.tables.specs.Places.{object_place, private_place, supremum_place, declared_place, called_place, spoiled_place, words_long, marks_long, Fits}
use Rattle.tables.specs.Views.{tabulate, cell, mark, object_from, pair_from, view}
use Rattle.tables.specs.Serving.Changes.{Become}
use Rattle.tables.proofs.Tabulated.{tab_get, tab_length, tab_alike, tab_stored}
use Rattle.tables.proofs.Stored.{two, two_beside, two_long, two_first, two_second, four, four_beside, four_long, four_first, four_second, four_third, four_fourth, marked, marked_beside, marked_long, marked_first, marked_second, marked_third}

-- the lists with an object, and with a pair, stored
abbrev pub object_stored : List ℕ → ℕ → Object → List ℕ
object_stored w o x = four w (object_place o) x.word x.global.0 x.local.0 x.terminal.0

abbrev pub words_stored : Size → List ℕ → ℕ → Pair → List ℕ
words_stored z w i p = two w (private_place z i) p.private.0 p.saved

abbrev pub bytes_stored : List ℕ → ℕ → Pair → List ℕ
bytes_stored b i p = two b (supremum_place i) p.supremum p.count.0

abbrev pub marks_stored : Size → List Bool → ℕ → Pair → List Bool
marks_stored z k i p = marked k (declared_place z i) (called_place z i) (spoiled_place z i) p.declared p.called p.spoiled

object_same : (m n : List ℕ) (o : ℕ) → ((j : ℕ) → j < object_place o + 4 → object_place o ≤ j → cell m j ≡ cell n j) → object_from m o ≡ object_from n o
object_same m n o alike =
    λ i.
    record {
      word = alike (object_place o) (omega arith) (omega arith) i;
      global = record { 0 = alike (object_place o + 1) (omega arith) (omega arith) i };
      local = record { 0 = alike (object_place o + 2) (omega arith) (omega arith) i };
      terminal = record { 0 = alike (object_place o + 3) (omega arith) (omega arith) i };
    }

module _ (z : Size) (w b : List ℕ) (k : List Bool) where
  pub object_seen : (o : ℕ) → o < z.objects → object_at (view z w b k) o ≡ object_from w o
  object_seen o below = tab_get z.objects (λ q. object_from w q) o no_object below

  pub live_seen : (s : ℕ) → s < z.slots → live_at (view z w b k) s ≡ mark k s
  live_seen s below = tab_get z.slots (λ r. mark k r) s false below

  pub pair_seen_lem : (s o : ℕ) → s < z.slots → o < z.objects → pair_at z (view z w b k) s o ≡ pair_from z w b k (s * z.objects + o)
  pair_seen_lem s o slot object =
      tab_get (z.slots * z.objects) (λ i. pair_from z w b k i) (s * z.objects + o) no_pair (place_inside z.objects z.slots s o slot object)

  -- the parts of a pair, each read at its place
  pub pair_read : (s o i at d c e : ℕ) → s < z.slots → o < z.objects → i ≡ s * z.objects + o
      → at ≡ private_place z i → d ≡ declared_place z i → c ≡ called_place z i → e ≡ spoiled_place z i
      → ◌≡◌ {A = Pair}
      (record {
        declared = mark k d;
        supremum = cell b (supremum_place i);
        private = record { 0 = cell w at };
        count = record { 0 = cell b (supremum_place i + 1) };
        called = mark k c;
        spoiled = mark k e;
        saved = cell w (at + 1);
      })
      (pair_at z (view z w b k) s o)
  pair_read s o i at d c e slot object is_pair is_at is-d is_c is-e =
      rw (is_at, is-d, is_c, is-e) (ap (pair_from z w b k) is_pair ∙ sym (pair_seen_lem s o slot object))

  pub sized : Sized z (view z w b k)
  sized =
      record {
        objects = tab_length z.objects (λ q. object_from w q);
        live = tab_length z.slots (λ r. mark k r);
        pairs = tab_length (z.slots * z.objects) (λ i. pair_from z w b k i);
      }

  pub object_stored_lem : length w ≡ words_long z → (o : ℕ) (x : Object) → o < z.objects → view z (object_stored w o x) b k ≡ with_object (view z w b k) o x
  object_stored_lem long o x below =
      let n : List ℕ = object_stored w o x in
      let at : ℕ = object_place o in
      let beside : (j : ℕ) → (at ≤ j → j < at + 4 → ⊥) → cell n j ≡ cell w j =
      four_beside w at x.word x.global.0 x.local.0 x.terminal.0 in
      let inside : at + 3 < length w = omega (arith, long) in
      let there : object_from n o ≡ x =
      λ i.
      record {
        word = four_first w at x.word x.global.0 x.local.0 x.terminal.0 inside i;
        global = record { 0 = four_second w at x.word x.global.0 x.local.0 x.terminal.0 inside i };
        local = record { 0 = four_third w at x.word x.global.0 x.local.0 x.terminal.0 inside i };
        terminal = record { 0 = four_fourth w at x.word x.global.0 x.local.0 x.terminal.0 inside i };
      } in
      let objects : tabulate z.objects (λ q. object_from n q) ≡ set (tabulate z.objects (λ q. object_from w q)) o x =
      tab_stored z.objects (λ q. object_from w q) (λ q. object_from n q) o x below there
      (λ q within apart. object_same n w q (λ j less more. beside j (λ from to. apart (omega arith)))) in
      let pairs : tabulate (z.slots * z.objects) (λ i. pair_from z n b k i) ≡ tabulate (z.slots * z.objects) (λ i. pair_from z w b k i) =
      tab_alike (z.slots * z.objects) (λ i. pair_from z n b k i) (λ i. pair_from z w b k i)
      (λ i within t.
      record {
        declared = mark k (declared_place z i);
        supremum = cell b (supremum_place i);
        private = record { 0 = beside (private_place z i) (λ from to. omega arith) t };
        count = record { 0 = cell b (supremum_place i + 1) };
        called = mark k (called_place z i);
        spoiled = mark k (spoiled_place z i);
        saved = beside (private_place z i + 1) (λ from to. omega arith) t;
      }) in
      λ i. record { objects = objects i; live = tabulate z.slots (λ r. mark k r); pairs = pairs i }

  module _ (long : length k ≡ marks_long z) where
    pub live_stored : (s : ℕ) (x : Bool) → s < z.slots → view z w b (set k s x) ≡ with_live (view z w b k) s x
    live_stored s x slot =
        let n : List Bool = set k s x in
        let beside : (j : ℕ) → (j ≡ s → ⊥) → mark n j ≡ mark k j = λ j apart. get_or-set_other k s j x false apart in
        let live : tabulate z.slots (λ r. mark n r) ≡ set (tabulate z.slots (λ r. mark k r)) s x =
        tab_stored z.slots (λ r. mark k r) (λ r. mark n r) s x slot (get_or-set_same k s x false (omega (arith, long)))
        (λ r within apart. beside r apart) in
        let pairs : tabulate (z.slots * z.objects) (λ i. pair_from z w b n i) ≡ tabulate (z.slots * z.objects) (λ i. pair_from z w b k i) =
        tab_alike (z.slots * z.objects) (λ i. pair_from z w b n i) (λ i. pair_from z w b k i)
        (λ i within t.
        record {
          declared = beside (declared_place z i) (λ same. omega arith) t;
          supremum = cell b (supremum_place i);
          private = record { 0 = cell w (private_place z i) };
          count = record { 0 = cell b (supremum_place i + 1) };
          called = beside (called_place z i) (λ same. omega arith) t;
          spoiled = beside (spoiled_place z i) (λ same. omega arith) t;
          saved = cell w (private_place z i + 1);
        }) in
        λ t. record { objects = tabulate z.objects (λ q. object_from w q); live = live t; pairs = pairs t }

  module _ (fits : Fits z w b k) (s o : ℕ) (p : Pair) (slot : s < z.slots) (object : o < z.objects) where
    -- the number of the pair, in a letter
    module _ (i : ℕ) (is_pair : i ≡ s * z.objects + o) where
      pub pair_stored : view z (words_stored z w i p) (bytes_stored b i p) (marks_stored z k i p) ≡ with_pair z (view z w b k) s o p
      pair_stored =
          let inside : i < z.slots * z.objects = omega (arith, is_pair, place_inside z.objects z.slots s o slot object) in
          let at : ℕ = private_place z i in
          let d : ℕ = declared_place z i in
          let c : ℕ = called_place z i in
          let e : ℕ = spoiled_place z i in
          let w₁ : List ℕ = words_stored z w i p in
          let b₁ : List ℕ = bytes_stored b i p in
          let k₁ : List Bool = marks_stored z k i p in
          let words : (j : ℕ) → (j ≡ at → ⊥) → (j ≡ at + 1 → ⊥) → cell w₁ j ≡ cell w j = two_beside w at p.private.0 p.saved in
          let bytes : (j : ℕ) → (j ≡ supremum_place i → ⊥) → (j ≡ supremum_place i + 1 → ⊥) → cell b₁ j ≡ cell b j =
          two_beside b (supremum_place i) p.supremum p.count.0 in
          let marks : (j : ℕ) → (j ≡ d → ⊥) → (j ≡ c → ⊥) → (j ≡ e → ⊥) → mark k₁ j ≡ mark k j =
          marked_beside k d c e p.declared p.called p.spoiled in
          let objects : tabulate z.objects (λ q. object_from w₁ q) ≡ tabulate z.objects (λ q. object_from w q) =
          tab_alike z.objects (λ q. object_from w₁ q) (λ q. object_from w q)
          (λ q within. object_same w₁ w q (λ j less more. words j (λ same. omega arith) (λ same. omega arith))) in
          let live : tabulate z.slots (λ r. mark k₁ r) ≡ tabulate z.slots (λ r. mark k r) =
          tab_alike z.slots (λ r. mark k₁ r) (λ r. mark k r)
          (λ r within. marks r (λ same. omega arith) (λ same. omega arith) (λ same. omega arith)) in
          let fitting : e < length k = omega (arith, fits.2) in
          let there : pair_from z w₁ b₁ k₁ i ≡ p =
          λ t.
          record {
            declared = marked_first k d c e p.declared p.called p.spoiled (omega arith) (omega arith) fitting t;
            supremum = two_first b (supremum_place i) p.supremum p.count.0 (omega (arith, fits.1)) t;
            private = record { 0 = two_first w at p.private.0 p.saved (omega (arith, fits.0)) t };
            count = record { 0 = two_second b (supremum_place i) p.supremum p.count.0 (omega (arith, fits.1)) t };
            called = marked_second k d c e p.declared p.called p.spoiled (omega arith) (omega arith) fitting t;
            spoiled = marked_third k d c e p.declared p.called p.spoiled (omega arith) (omega arith) fitting t;
            saved = two_second w at p.private.0 p.saved (omega (arith, fits.0)) t;
          } in
          let pairs : tabulate (z.slots * z.objects) (λ j. pair_from z w₁ b₁ k₁ j) ≡ set (tabulate (z.slots * z.objects) (λ j. pair_from z w b k j)) i p =
          tab_stored (z.slots * z.objects) (λ j. pair_from z w b k j) (λ j. pair_from z w₁ b₁ k₁ j) i p inside there
          (λ j within apart t.
          record {
            declared = marks (declared_place z j) (λ same. apart (omega arith)) (λ same. omega arith) (λ same. omega arith) t;
            supremum = bytes (supremum_place j) (λ same. apart (omega arith)) (λ same. omega arith) t;
            private = record { 0 = words (private_place z j) (λ same. apart (omega arith)) (λ same. omega arith) t };
            count = record { 0 = bytes (supremum_place j + 1) (λ same. omega arith) (λ same. apart (omega arith)) t };
            called = marks (called_place z j) (λ same. omega arith) (λ same. apart (omega arith)) (λ same. omega arith) t;
            spoiled = marks (spoiled_place z j) (λ same. omega arith) (λ same. omega arith) (λ same. apart (omega arith)) t;
            saved = words (private_place z j + 1) (λ same. omega arith) (λ same. apart (omega arith)) t;
          }) in
          (λ t. record { objects = objects t; live = live t; pairs = pairs t })
          ∙ (λ t. record { objects = (view z w b k).objects; live = (view z w b k).live; pairs = set (view z w b k).pairs (is_pair t) p })

      pub pair_fits : Fits z (words_stored z w i p) (bytes_stored b i p) (marks_stored z k i p)
      pair_fits = (
        two_long w (private_place z i) p.private.0 p.saved ∙ fits.0,
        two_long b (supremum_place i) p.supremum p.count.0 ∙ fits.1,
        marked_long k (declared_place z i) (called_place z i) (spoiled_place z i) p.declared p.called p.spoiled ∙ fits.2,
      )

-- the same, at places that are given
pub stored_become : (z : Size) (w b : List ℕ) (k : List Bool) → Fits z w b k → (s o : ℕ) (p : Pair) → s < z.slots → o < z.objects
    → (i at d c e : ℕ) → i ≡ s * z.objects + o → at ≡ private_place z i → d ≡ declared_place z i → c ≡ called_place z i → e ≡ spoiled_place z i
    → Become z w b k (two w at p.private.0 p.saved) (bytes_stored b i p) (marked k d c e p.declared p.called p.spoiled) (λ t. with_pair z t s o p)
stored_become z w b k fits s o p slot object i at d c e is_pair is_at is-d is_c is-e =
    rw (is_at, is-d, is_c, is-e) (pair_fits z w b k fits s o p slot object i is_pair, pair_stored z w b k fits s o p slot object i is_pair)

pub object_long : (w : List ℕ) (o : ℕ) (x : Object) → length (object_stored w o x) ≡ length w
object_long w o x = four_long w (object_place o) x.word x.global.0 x.local.0 x.terminal.0
