-- What is read after a start, place by place.
use Prim.Native.Nat.{ℕ, ◌+◌, ◌<◌}
use mathlib.Core.Bool.{Bool, true, false, ◌&&◌, ◌||◌}
use mathlib.Core.List.{List, [], ◌∷◌}
use mathlib.Core.Path.{◌≡◌, refl, ap, ◌∙◌}
use native.Mathlib.Omega.{arith}
use lib.Dec.{eqb}
use lib.ListN.{get_or}
use borrow.Author.Tests.{eqb-true, ne_eqb}
use Rattle.answers.specs.Order.{pick}
use Rattle.counters.specs.Sizes.{Size}
use Rattle.record_layout.specs.Declarations.{Declaration, declarations_of, names}
use Rattle.objects.specs.Places.{no_pair, given_out, declared_with}
use Rattle.objects.specs.declared.Object.{Object}
use Rattle.objects.specs.declared.Pair.{Pair}
use Rattle.rules.specs.Tables.{State, no_object, object_at, live_at, pair_at, with_object}
use Rattle.rules.specs.Effects.{clear_slot, declare_one, declare_all, start_effect}
use Rattle.answers.proofs.Tests.{both_true}
use Rattle.rules.proofs.Picking.{and_false, pick_nested, pick_moved}
use Rattle.rules.proofs.Facts.{Rises}
use Rattle.rules.proofs.Stores.{Sized, pair_after, object_after, live_after, sized_pair, sized_object, sized_live}
use Rattle.rules.proofs.Cleared.{clear_objects, clear_live, clear_sized, clear_pairs}

-- the supremum with which a start declares an object
abbrev pub supremum_of : List Declaration → ℕ → ℕ
supremum_of [] q = 0
supremum_of (declaration ∷ rest) q = pick (eqb q declaration.object) declaration.supremum (supremum_of rest q)

-- what rises names no object below its first
names_none_below : (z : Size) (least : ℕ) (declarations : List Declaration) → Rises z least declarations → (q : ℕ) → q < least → names declarations q ≡ false
names_none_below z least [] rises q below = refl
names_none_below z least (declaration ∷ rest) rises q below =
    rw (ne_eqb q declaration.object (λ same. omega (arith, rises.above)))
    (names_none_below z (declaration.object + 1) rest rises.behind q (omega (arith, rises.above)))

-- an object named here is not named behind, so it is given out once
once_given : (here behind : Bool) (x : Object) → (here ≡ true → behind ≡ false)
    → pick behind (given_out (pick here (given_out x) x)) (pick here (given_out x) x) ≡ pick (here || behind) (given_out x) x
once_given true behind x once = rw (once refl)
once_given false behind x once = refl

once_declared : (slot here behind : Bool) (x : Object) (pair : Pair) (supremum later : ℕ) → (here ≡ true → behind ≡ false)
    → pick (slot && behind) (declared_with later (given_out (pick here (given_out x) x)).global) (pick (slot && here) (declared_with supremum (given_out x).global) pair)
    ≡ pick (slot && (here || behind)) (declared_with (pick here supremum later) (given_out x).global) pair
once_declared false here behind x pair supremum later once = refl
once_declared true true behind x pair supremum later once = rw (once refl)
once_declared true false behind x pair supremum later once = refl

module _ (z : Size) (s : ℕ) where
  one_sized : (object supremum : ℕ) (t : State) → Sized z t → Sized z (declare_one z s object supremum t)
  one_sized object supremum t sized =
      let given : Object = given_out (object_at t object) in
      sized_pair z (with_object t object given) (sized_object z t sized object given) s object (declared_with supremum given.global)

  declared_sized : (declarations : List Declaration) (t : State) → Sized z t → Sized z (declare_all z s declarations t)
  declared_sized [] t sized = sized
  declared_sized (declaration ∷ rest) t sized =
      declared_sized rest (declare_one z s declaration.object declaration.supremum t) (one_sized declaration.object declaration.supremum t sized)

  declared_live : (declarations : List Declaration) (t : State) → (declare_all z s declarations t).live ≡ t.live
  declared_live [] t = refl
  declared_live (declaration ∷ rest) t = declared_live rest (declare_one z s declaration.object declaration.supremum t)

  one_object : (object supremum : ℕ) (t : State) → Sized z t → object < z.objects → (q : ℕ)
      → object_at (declare_one z s object supremum t) q ≡ pick (eqb q object) (given_out (object_at t q)) (object_at t q)
  one_object object supremum t sized inside q =
      object_after z t sized object q (given_out (object_at t object)) inside
      ∙ pick_moved (λ o. given_out (object_at t o)) (object_at t q) (eqb q object) q object (eqb-true q object)

  one_pair : (object supremum : ℕ) (t : State) → Sized z t → s < z.slots → object < z.objects → (r q : ℕ) → q < z.objects
      → pair_at z (declare_one z s object supremum t) r q
      ≡ pick (eqb r s && eqb q object) (declared_with supremum (given_out (object_at t q)).global) (pair_at z t r q)
  one_pair object supremum t sized slot inside r q other =
      let given : Object = given_out (object_at t object) in
      pair_after z (with_object t object given) (sized_object z t sized object given) s object r q (declared_with supremum given.global) slot inside other
      ∙ pick_moved (λ o. declared_with supremum (given_out (object_at t o)).global) (pair_at z t r q) (eqb r s && eqb q object) q object
      (λ same. eqb-true q object (both_true (eqb r s) (eqb q object) same).1)

  declared_objects : (least : ℕ) (declarations : List Declaration) (t : State) → Sized z t → Rises z least declarations → (q : ℕ)
      → object_at (declare_all z s declarations t) q ≡ pick (names declarations q) (given_out (object_at t q)) (object_at t q)
  declared_objects least [] t sized rises q = refl
  declared_objects least (declaration ∷ rest) t sized rises q =
      let o : ℕ = declaration.object in
      let supremum : ℕ = declaration.supremum in
      declared_objects (o + 1) rest (declare_one z s o supremum t) (one_sized o supremum t sized) rises.behind q
      ∙ rw (one_object o supremum t sized rises.inside q)
      (once_given (eqb q o) (names rest q) (object_at t q)
      (λ same. names_none_below z (o + 1) rest rises.behind q (omega (arith, eqb-true q o same))))

  declared_pairs : (least : ℕ) (declarations : List Declaration) (t : State) → Sized z t → s < z.slots → Rises z least declarations
      → (r q : ℕ) → q < z.objects
      → pair_at z (declare_all z s declarations t) r q
      ≡ pick (eqb r s && names declarations q) (declared_with (supremum_of declarations q) (given_out (object_at t q)).global) (pair_at z t r q)
  declared_pairs least [] t sized slot rises r q inside = rw (and_false (eqb r s))
  declared_pairs least (declaration ∷ rest) t sized slot rises r q inside =
      let o : ℕ = declaration.object in
      let supremum : ℕ = declaration.supremum in
      declared_pairs (o + 1) rest (declare_one z s o supremum t) (one_sized o supremum t sized) slot rises.behind r q inside
      ∙ rw (one_object o supremum t sized rises.inside q, one_pair o supremum t sized slot rises.inside r q inside)
      (once_declared (eqb r s) (eqb q o) (names rest q) (object_at t q) (pair_at z t r q) supremum (supremum_of rest q)
      (λ same. names_none_below z (o + 1) rest rises.behind q (omega (arith, eqb-true q o same))))

-- the tables u after a start in t
pub record Started (z : Size) (s : ℕ) (declarations : List Declaration) (t u : State) : Type 0 where
  pub sized : Sized z u
  pub object : (q : ℕ) → object_at u q ≡ pick (names declarations q) (given_out (object_at t q)) (object_at t q)
  pub pair : (r q : ℕ) → q < z.objects
      → pair_at z u r q
      ≡ pick (eqb r s) (pick (names declarations q) (declared_with (supremum_of declarations q) (given_out (object_at t q)).global) no_pair) (pair_at z t r q)
  pub live : (r : ℕ) → live_at u r ≡ pick (eqb r s) true (live_at t r)

-- the effect of a start, place by place
pub start_effect_lem : (z : Size) (t : State) (s : ℕ) (list : List ℕ) → Sized z t → s < z.slots → Rises z 0 (declarations_of list)
    → Started z s (declarations_of list) t (start_effect z s (declarations_of list) t)
start_effect_lem z t s list sized slot rises =
    record {
      sized = sized_live z all (declared_sized z s declarations cleared empty) s true;
      object = λ q. declared_objects z s 0 declarations cleared empty rises q ∙ rw (same q);
      pair =
          λ r q inside.
          declared_pairs z s 0 declarations cleared empty slot rises r q inside
          ∙ rw (same q, clear_pairs z t s sized slot r q inside)
          (pick_nested (eqb r s) (names declarations q) (declared_with (supremum_of declarations q) (given_out (object_at t q)).global) no_pair (pair_at z t r q));
      live =
          λ r.
          live_after z all (declared_sized z s declarations cleared empty) s r true slot
          ∙ ap (λ (l : List Bool). pick (eqb r s) true (get_or l r false)) (declared_live z s declarations cleared ∙ clear_live z t s);
    }
  where
    declarations : List Declaration
    declarations = declarations_of list

    cleared : State
    cleared = clear_slot z s t

    empty : Sized z cleared
    empty = clear_sized z t s sized

    all : State
    all = declare_all z s declarations cleared

    same : (q : ℕ) → object_at cleared q ≡ object_at t q
    same q = ap (λ (l : List Object). get_or l q no_object) (clear_objects z t s)
