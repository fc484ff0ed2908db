-- What is read after a slot is cleared, place by place.
use Prim.Native.Nat.{ℕ, ◌<◌}
use mathlib.Core.Path.{◌≡◌, refl, sym, ◌∙◌}
use lib.Dec.{eqb}
use borrow.Author.Tests.{eq-eqb, ne_eqb}
use Rattle.answers.specs.Order.{pick}
use Rattle.counters.specs.Sizes.{Size}
use Rattle.objects.specs.Places.{no_pair}
use Rattle.rules.specs.Tables.{State, pair_at, with_pair}
use Rattle.rules.specs.Walks.{each_below}
use Rattle.rules.specs.Effects.{clear_slot}
use Rattle.rules.proofs.Picking.{and_false, and_true}
use Rattle.rules.proofs.Stores.{Sized, pair_after, sized_pair}
use Rattle.rules.proofs.Walking.{each_keeps, each_sees}

-- the tables with the first pairs of a slot zero
abbrev pub cleared_to : Size → ℕ → ℕ → State → State
cleared_to z s k t = each_below k (λ o u. with_pair z u s o no_pair) t

module _ (z : Size) (t : State) (s : ℕ) where
  -- the objects, the live marks and the sizes stay
  pub clear_objects : (clear_slot z s t).objects ≡ t.objects
  clear_objects = each_keeps (λ u. u.objects ≡ t.objects) (λ o u. with_pair z u s o no_pair) t refl z.objects (λ o u below same. same)

  pub clear_live : (clear_slot z s t).live ≡ t.live
  clear_live = each_keeps (λ u. u.live ≡ t.live) (λ o u. with_pair z u s o no_pair) t refl z.objects (λ o u below same. same)

  pub clear_sized : Sized z t → Sized z (clear_slot z s t)
  clear_sized sized = each_keeps (Sized z) (λ o u. with_pair z u s o no_pair) t sized z.objects (λ o u below kept. sized_pair z u kept s o no_pair)

  -- all pairs of the slot zero, all others as they were
  pub clear_pairs : Sized z t → s < z.slots → (r q : ℕ) → q < z.objects
      → pair_at z (clear_slot z s t) r q ≡ pick (eqb r s) no_pair (pair_at z t r q)
  clear_pairs sized slot r q object =
      each_sees (Sized z) (λ o u. with_pair z u s o no_pair) t sized (λ u. pair_at z u r q)
      z.objects q (λ pair. pick (eqb r s) no_pair pair) object (λ o u below kept. sized_pair z u kept s o no_pair)
      (λ o u below apart kept. pair_after z u kept s o r q no_pair slot below object ∙ rw (ne_eqb q o (λ same. apart (sym same)), and_false (eqb r s)))
      (λ u kept. pair_after z u kept s q r q no_pair slot object object ∙ rw (eq-eqb q q refl, and_true (eqb r s)))
