-- What is read after one store into the tables. A pair stands at s * objects + o, and no two pairs stand at one place.
use Prim.Native.Nat.{ℕ, ◌+◌, ◌*◌, ◌<◌}
use mathlib.Core.Bool.{Bool, true, false, ◌&&◌}
use mathlib.Core.List.{List}
use mathlib.Core.Logic.{◌≢◌}
use mathlib.Core.Path.{◌≡◌, refl, ap, ◌∙◌}
use native.Mathlib.Omega.{arith}
use native.Mathlib.Nat.{mul-le-mul_right}
use lib.ListN.{length, get_or, set, length-set, length-replicate, length-map}
use lib.Seq.{get_or-set_same, get_or-set_other, set-get_or}
use lib.Dec.{eqb, ltb}
use borrow.Author.Tests.{eqb-true, eqb-false, eq-eqb, ne_eqb, ltb-true, ltb-false}
use Rattle.answers.specs.Order.{pick}
use Rattle.counters.specs.Sizes.{Size}
use Rattle.objects.specs.Places.{no_pair}
use Rattle.objects.specs.declared.Object.{Object}
use Rattle.objects.specs.declared.Pair.{Pair}
use Rattle.rules.specs.Tables.{State, no_object, object_at, live_at, pair_at, with_object, with_live, with_pair, fresh_tables, fresh_object}

-- tables with a place for every object, every slot and every pair
pub record Sized (z : Size) (t : State) : Type 0 where
  pub objects : length t.objects ≡ z.objects
  pub live : length t.live ≡ z.slots
  pub pairs : length t.pairs ≡ z.slots * z.objects

-- what is read at any place after one store in a list
pub stored : {A : Type 0} (l : List A) (i j : ℕ) (x d : A) → i < length l → get_or (set l i x) j d ≡ pick (eqb j i) x (get_or l j d)
stored l i j x d inside = by (eqb j i) refl
  where
    by : (same : Bool) → eqb j i ≡ same → get_or (set l i x) j d ≡ pick (eqb j i) x (get_or l j d)
    by true e = rw (e, eqb-true j i e) (get_or-set_same l i x d inside)
    by false e = rw e (get_or-set_other l i j x d (eqb-false j i e))

module _ (m : ℕ) where
  row_below : (r s q o : ℕ) → q < m → r < s → r * m + q < s * m + o
  row_below r s q o below under = omega (arith, mul-le-mul_right m under)

  -- the place of a pair lies below the end
  pub place_inside : (n s o : ℕ) → s < n → o < m → s * m + o < n * m
  place_inside n s o slot object = omega (arith, row_below s n o 0 object slot)

  -- two pairs at one place are one pair
  pub place_apart : (r s q o : ℕ) → q < m → o < m → r * m + q ≡ s * m + o → (r ≡ s) × (q ≡ o)
  place_apart r s q o q-below o-below same = by (ltb r s) refl (ltb s r) refl
    where
      by : (left : Bool) → ltb r s ≡ left → (right : Bool) → ltb s r ≡ right → (r ≡ s) × (q ≡ o)
      by true e right f = absurd (omega (arith, row_below r s q o q-below (ltb-true r s e)))
      by false e true f = absurd (omega (arith, row_below s r o q o-below (ltb-true s r f)))
      by false e false f =
          let equal : r ≡ s = omega (arith, ltb-false r s e, ltb-false s r f) in
          (equal, omega (arith, ap (λ (k : ℕ). k * m) equal))

  -- so the test of two places is the test of slot and object
  pub place_test : (r s q o : ℕ) → q < m → o < m → eqb (r * m + q) (s * m + o) ≡ eqb r s && eqb q o
  place_test r s q o q-below o-below = by (eqb r s) refl (eqb q o) refl
    where
      by : (slot : Bool) → eqb r s ≡ slot → (object : Bool) → eqb q o ≡ object → eqb (r * m + q) (s * m + o) ≡ eqb r s && eqb q o
      by false e object f = rw e (ne_eqb (r * m + q) (s * m + o) (λ same. eqb-false r s e (place_apart r s q o q-below o-below same).0))
      by true e false f = rw (e, f) (ne_eqb (r * m + q) (s * m + o) (λ same. eqb-false q o f (place_apart r s q o q-below o-below same).1))
      by true e true f = rw (e, f) (eq-eqb (r * m + q) (s * m + o) (cc (eqb-true r s e, eqb-true q o f)))

module _ (z : Size) (t : State) (sized : Sized z t) where
  -- what is read after one store, where the place stored to is inside the tables
  pub pair_after : (s o r q : ℕ) (p : Pair) → s < z.slots → o < z.objects → q < z.objects
      → pair_at z (with_pair z t s o p) r q ≡ pick (eqb r s && eqb q o) p (pair_at z t r q)
  pair_after s o r q p slot object other =
      let place : s * z.objects + o < length t.pairs = omega (arith, place_inside z.objects z.slots s o slot object, sized.pairs) in
      stored t.pairs (s * z.objects + o) (r * z.objects + q) p no_pair place
      ∙ ap (λ (same : Bool). pick same p (pair_at z t r q)) (place_test z.objects r s q o other object)

  pub object_after : (o q : ℕ) (x : Object) → o < z.objects → object_at (with_object t o x) q ≡ pick (eqb q o) x (object_at t q)
  object_after o q x object = stored t.objects o q x no_object (omega (arith, sized.objects))

  pub live_after : (s r : ℕ) (x : Bool) → s < z.slots → live_at (with_live t s x) r ≡ pick (eqb r s) x (live_at t r)
  live_after s r x slot = stored t.live s r x false (omega (arith, sized.live))

  -- at the place itself
  pub pair_there : (s o : ℕ) (p : Pair) → s < z.slots → o < z.objects → pair_at z (with_pair z t s o p) s o ≡ p
  pair_there s o p slot object = pair_after s o s o p slot object object ∙ rw (eq-eqb s s refl, eq-eqb o o refl)

  pub object_there : (o : ℕ) (x : Object) → o < z.objects → object_at (with_object t o x) o ≡ x
  object_there o x object = object_after o o x object ∙ rw (eq-eqb o o refl)

  pub live_there : (s : ℕ) (x : Bool) → s < z.slots → live_at (with_live t s x) s ≡ x
  live_there s x slot = live_after s s x slot ∙ rw (eq-eqb s s refl)

  -- every store keeps the sizes
  pub sized_pair : (s o : ℕ) (p : Pair) → Sized z (with_pair z t s o p)
  sized_pair s o p =
      record { objects = sized.objects; live = sized.live; pairs = length-set t.pairs (s * z.objects + o) p ∙ sized.pairs }

  pub sized_object : (o : ℕ) (x : Object) → Sized z (with_object t o x)
  sized_object o x = record { objects = length-set t.objects o x ∙ sized.objects; live = sized.live; pairs = sized.pairs }

  pub sized_live : (s : ℕ) (x : Bool) → Sized z (with_live t s x)
  sized_live s x = record { objects = sized.objects; live = length-set t.live s x ∙ sized.live; pairs = sized.pairs }

-- at any other place, of tables of any size
pub pair_elsewhere : (z : Size) (t : State) (s o r q : ℕ) (p : Pair) → o < z.objects → q < z.objects → ((r ≡ s) × (q ≡ o) → ⊥)
    → pair_at z (with_pair z t s o p) r q ≡ pair_at z t r q
pair_elsewhere z t s o r q p object other apart =
    get_or-set_other t.pairs (s * z.objects + o) (r * z.objects + q) p no_pair (λ same. apart (place_apart z.objects r s q o other object same))

pub object_elsewhere : (t : State) (o q : ℕ) (x : Object) → q ≢ o → object_at (with_object t o x) q ≡ object_at t q
object_elsewhere t o q x apart = get_or-set_other t.objects o q x no_object apart

pub live_elsewhere : (t : State) (s r : ℕ) (x : Bool) → r ≢ s → live_at (with_live t s x) r ≡ live_at t r
live_elsewhere t s r x apart = get_or-set_other t.live s r x false apart

-- the other columns stay
pub pair_leaves : (z : Size) (t : State) (s o : ℕ) (p : Pair) → ((with_pair z t s o p).objects ≡ t.objects) × ((with_pair z t s o p).live ≡ t.live)
pair_leaves z t s o p = (refl, refl)

pub object_leaves : (t : State) (o : ℕ) (x : Object) → ((with_object t o x).live ≡ t.live) × ((with_object t o x).pairs ≡ t.pairs)
object_leaves t o x = (refl, refl)

pub live_leaves : (t : State) (s : ℕ) (x : Bool) → ((with_live t s x).objects ≡ t.objects) × ((with_live t s x).pairs ≡ t.pairs)
live_leaves t s x = (refl, refl)

-- tables that agree in every column are one
pub tables_alike : (t u : State) → t.objects ≡ u.objects → t.live ≡ u.live → t.pairs ≡ u.pairs → t ≡ u
tables_alike t u objects live pairs = λ i. record { objects = objects i; live = live i; pairs = pairs i }

-- storing what stands there changes nothing
pub pair_kept : (z : Size) (t : State) (s o : ℕ) → with_pair z t s o (pair_at z t s o) ≡ t
pair_kept z t s o = tables_alike (with_pair z t s o (pair_at z t s o)) t refl refl (set-get_or t.pairs (s * z.objects + o) no_pair)

pub object_kept : (t : State) (o : ℕ) → with_object t o (object_at t o) ≡ t
object_kept t o = tables_alike (with_object t o (object_at t o)) t (set-get_or t.objects o no_object) refl refl

pub live_kept : (t : State) (s : ℕ) → with_live t s (live_at t s) ≡ t
live_kept t s = tables_alike (with_live t s (live_at t s)) t refl (set-get_or t.live s false) refl

-- the fresh tables have their sizes
pub sized_fresh : (z : Size) (words : List ℕ) (first : ℕ) → length words ≡ z.objects → Sized z (fresh_tables z words first)
sized_fresh z words first all =
    record {
      objects = length-map words (fresh_object first) ∙ all;
      live = length-replicate z.slots false;
      pairs = length-replicate (z.slots * z.objects) no_pair;
    }
