-- Tables in which every object and every slot is begun are the fresh tables.
use Prim.Native.Nat.{ℕ, zero, suc, ◌*◌, ◌/◌, ◌%◌, ◌<◌}
use mathlib.Core.Bool.{Bool, false}
use mathlib.Core.List.{List, map}
use mathlib.Core.Path.{◌≡◌, refl, sym, ap, ◌∙◌}
use native.Mathlib.Nat.{div-add-mod', div-lt_iff_lt-mul, mod-lt}
use native.Mathlib.Omega.{arith}
use borrow.Author.Tests.{eq-eqb, ne_eqb}
use lib.ListN.{length, get_or, replicate, get_or-map, get_or-replicate, length-replicate, length-map}
use lib.Seq.{ext_get_or, get_or-set_same, get_or-set_other}
use Rattle.step_start.specs.Serving.Beginnings.{begin_object, begin_slot}
use Rattle.counters.specs.Sizes.{Size}
use Rattle.objects.specs.Places.{no_pair}
use Rattle.rules.proofs.Cleared.{clear_objects, clear_live, clear_sized, clear_pairs}
use Rattle.rules.proofs.Stores.{Sized, tables_alike, live_elsewhere, live_there, sized_object, sized_live}
use Rattle.rules.proofs.Walking.{Keeps, each_keeps, each_leaves, each_sees}
use Rattle.rules.specs.Effects.{clear_slot}
use Rattle.rules.specs.Tables.{State, live_at, pair_at, fresh_object, fresh_tables}
use Rattle.rules.specs.Walks.{each_below}

some_object : (slots objects i : ℕ) → i < slots * objects → 0 < objects
some_object slots zero i inside = absurd (omega arith)
some_object slots (suc n) i inside = omega arith

module _ (z : Size) (t : State) (sized : Sized z t) where
  module _ (first : ℕ) (given : List ℕ) (all : length given ≡ z.objects) where
    abbrev objects_begun : State
    objects_begun = each_below z.objects (begin_object first given) t

    keeps_objects : Keeps (Sized z) z.objects (begin_object first given)
    keeps_objects o u below kept = sized_object z u kept o (fresh_object first (get_or given o 0))

    objects_sized : Sized z objects_begun
    objects_sized = each_keeps (Sized z) (begin_object first given) t sized z.objects keeps_objects

    objects_fresh : objects_begun.objects ≡ map (fresh_object first) given
    objects_fresh =
        ext_get_or (fresh_object first 0) objects_begun.objects (map (fresh_object first) given)
        (objects_sized.objects ∙ sym (length-map given (fresh_object first) ∙ all))
        (λ o inside.
        let object : o < z.objects = omega (arith, objects_sized.objects) in
        each_sees (Sized z) (begin_object first given) t sized (λ u. get_or u.objects o (fresh_object first 0)) z.objects o
        (λ x. fresh_object first (get_or given o 0)) object keeps_objects
        (λ q u below apart kept. get_or-set_other u.objects q o (fresh_object first (get_or given q 0)) (fresh_object first 0) (λ same. apart (sym same)))
        (λ u kept. get_or-set_same u.objects o (fresh_object first (get_or given o 0)) (fresh_object first 0) (omega (arith, kept.objects)))
        ∙ sym (get_or-map (fresh_object first) given o 0))

  abbrev slots_begun : State
  slots_begun = each_below z.slots (begin_slot z) t

  keeps_slots : Keeps (Sized z) z.slots (begin_slot z)
  keeps_slots s u below kept = sized_live z (clear_slot z s u) (clear_sized z u s kept) s false

  slots_sized : Sized z slots_begun
  slots_sized = each_keeps (Sized z) (begin_slot z) t sized z.slots keeps_slots

  objects_left : slots_begun.objects ≡ t.objects
  objects_left = each_leaves (Sized z) (begin_slot z) t sized (λ u. u.objects) z.slots keeps_slots (λ s u below kept. clear_objects z u s)

  none_live : slots_begun.live ≡ replicate z.slots false
  none_live =
      ext_get_or false slots_begun.live (replicate z.slots false) (slots_sized.live ∙ sym (length-replicate z.slots false))
      (λ r inside.
      let slot : r < z.slots = omega (arith, slots_sized.live) in
      each_sees (Sized z) (begin_slot z) t sized (λ u. live_at u r) z.slots r (λ live. false) slot keeps_slots
      (λ s u below apart kept.
      live_elsewhere (clear_slot z s u) s r false (λ same. apart (sym same)) ∙ ap (λ (l : List Bool). get_or l r false) (clear_live z u s))
      (λ u kept. live_there z (clear_slot z r u) (clear_sized z u r kept) r false slot)
      ∙ sym (get_or-replicate z.slots r false false slot))

  pair_none : (r q : ℕ) → r < z.slots → q < z.objects → pair_at z slots_begun r q ≡ no_pair
  pair_none r q slot object =
      each_sees (Sized z) (begin_slot z) t sized (λ u. pair_at z u r q) z.slots r (λ pair. no_pair) slot keeps_slots
      (λ s u below apart kept. clear_pairs z u s kept below r q object ∙ rw (ne_eqb r s (λ same. apart (sym same))))
      (λ u kept. clear_pairs z u r kept slot r q object ∙ rw (eq-eqb r r refl))

  pairs_none : slots_begun.pairs ≡ replicate (z.slots * z.objects) no_pair
  pairs_none =
      ext_get_or no_pair slots_begun.pairs (replicate (z.slots * z.objects) no_pair)
      (slots_sized.pairs ∙ sym (length-replicate (z.slots * z.objects) no_pair))
      (λ i inside.
      let within : i < z.slots * z.objects = omega (arith, slots_sized.pairs) in
      let some : 0 < z.objects = some_object z.slots z.objects i within in
      ap (λ (j : ℕ). get_or slots_begun.pairs j no_pair) (sym (div-add-mod' i z.objects))
      ∙ pair_none (i / z.objects) (i % z.objects) ((div-lt_iff_lt-mul some).1 within) (mod-lt i some)
      ∙ sym (get_or-replicate (z.slots * z.objects) i no_pair no_pair within))

pub begun : (z : Size) (first : ℕ) (given : List ℕ) (t t₁ t₂ : State) → Sized z t → length given ≡ z.objects
    → t₁ ≡ each_below z.objects (begin_object first given) t → t₂ ≡ each_below z.slots (begin_slot z) t₁ → t₂ ≡ fresh_tables z given first
begun z first given t t₁ t₂ sized all objects slots =
    let u : State = each_below z.objects (begin_object first given) t in
    let fits : Sized z u = objects_sized z t sized first given all in
    slots
    ∙ ap (each_below z.slots (begin_slot z)) objects
    ∙ tables_alike (slots_begun z u fits) (fresh_tables z given first)
    (objects_left z u fits ∙ objects_fresh z t sized first given all) (none_live z u fits) (pairs_none z u fits)
