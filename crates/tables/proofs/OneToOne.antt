-- No two fillings of the three lists, of the right lengths, stand for the same tables: what the tables fix is fixed to the last mark.
use Prim.Native.Nat.{ℕ, zero, suc, ◌+◌, ◌*◌, ◌%◌, ◌/◌, ◌<◌, ◌≤◌, ◌-◌}
use mathlib.Core.Bool.{Bool, true, false}
use mathlib.Core.List.{List}
use mathlib.Core.Path.{◌≡◌, refl, sym, ap, subst, ◌∙◌}
use native.Mathlib.Omega.{arith}
use lib.Seq.{ext_get_or}
use lib.Dec.{ltb}
use borrow.Author.Tests.{ltb-true, ltb-false}
use Rattle.counters.specs.Sizes.{Size}
use Rattle.objects.specs.Places.{no_pair}
use Rattle.objects.specs.declared.Object.{Object}
use Rattle.objects.specs.declared.Pair.{Pair}
use Rattle.rules.specs.Tables.{State, no_object}
use Rattle.tables.specs.Places.{private_place, declared_place, called_place, spoiled_place, Fits}
use Rattle.tables.specs.Views.{cell, mark, object_from, pair_from, view}
use Rattle.tables.proofs.Tabulated.{tab_same}

nothing : (at : ℕ) → at ≡ at + 0
nothing at = omega arith

-- a place is the first, the second .. of its group
by_two : (P : ℕ → Type 0) (at i : ℕ) → P at → P (at + 1) → i < 2 → P (at + i)
by_two P at zero first second few = subst P (nothing at) first
by_two P at (suc zero) first second few = second
by_two P at (suc (suc i)) first second few = absurd (omega arith)

by_four : (P : ℕ → Type 0) (at i : ℕ) → P at → P (at + 1) → P (at + 2) → P (at + 3) → i < 4 → P (at + i)
by_four P at zero a b c d few = subst P (nothing at) a
by_four P at (suc zero) a b c d few = b
by_four P at (suc (suc zero)) a b c d few = c
by_four P at (suc (suc (suc zero))) a b c d few = d
by_four P at (suc (suc (suc (suc i)))) a b c d few = absurd (omega arith)

below_or : (P : Type 0) (a b : ℕ) → (a < b → P) → (b ≤ a → P) → P
below_or P a b less more = go (ltb a b) refl
  where
    go : (k : Bool) → ltb a b ≡ k → P
    go true e = less (ltb-true a b e)
    go false e = more (omega (arith, ltb-false a b e))

module _ (z : Size) (w w' b b' : List ℕ) (k k' : List Bool) (same : view z w b k ≡ view z w' b' k') where
  object_alike : (o : ℕ) → o < z.objects → object_from w o ≡ object_from w' o
  object_alike = tab_same z.objects (λ q. object_from w q) (λ q. object_from w' q) no_object (ap (λ (t : State). t.objects) same)

  live_alike : (s : ℕ) → s < z.slots → mark k s ≡ mark k' s
  live_alike = tab_same z.slots (λ r. mark k r) (λ r. mark k' r) false (ap (λ (t : State). t.live) same)

  pair_alike : (i : ℕ) → i < z.slots * z.objects → pair_from z w b k i ≡ pair_from z w' b' k' i
  pair_alike = tab_same (z.slots * z.objects) (λ i. pair_from z w b k i) (λ i. pair_from z w' b' k' i) no_pair (ap (λ (t : State). t.pairs) same)

  module _ (fits : Fits z w b k) (fits' : Fits z w' b' k') where
    pub words_alike : w ≡ w'
    words_alike = ext_get_or 0 w w' (fits.0 ∙ sym fits'.0) (λ j inside.
        below_or (cell w j ≡ cell w' j) j (4 * z.objects)
        (λ low.
        let e : object_from w (j / 4) ≡ object_from w' (j / 4) = object_alike (j / 4) (omega arith) in
        let got : cell w (4 * (j / 4) + j % 4) ≡ cell w' (4 * (j / 4) + j % 4) =
        by_four (λ i. cell w i ≡ cell w' i) (4 * (j / 4)) (j % 4) (ap (λ (x : Object). x.word) e) (ap (λ (x : Object). x.global.0) e)
        (ap (λ (x : Object). x.local.0) e) (ap (λ (x : Object). x.terminal.0) e) (omega arith) in
        let here : 4 * (j / 4) + j % 4 ≡ j = omega arith in
        subst (λ (i : ℕ). cell w i ≡ cell w' i) here got)
        (λ high.
        let n : ℕ = j - 4 * z.objects in
        let e : pair_from z w b k (n / 2) ≡ pair_from z w' b' k' (n / 2) = pair_alike (n / 2) (omega (arith, fits.0)) in
        let got : cell w (private_place z (n / 2) + n % 2) ≡ cell w' (private_place z (n / 2) + n % 2) =
        by_two (λ i. cell w i ≡ cell w' i) (private_place z (n / 2)) (n % 2) (ap (λ (p : Pair). p.private.0) e) (ap (λ (p : Pair). p.saved) e) (omega arith) in
        let here : private_place z (n / 2) + n % 2 ≡ j = omega arith in
        subst (λ (i : ℕ). cell w i ≡ cell w' i) here got))

    pub bytes_alike : b ≡ b'
    bytes_alike = ext_get_or 0 b b' (fits.1 ∙ sym fits'.1) (λ j inside.
        let e : pair_from z w b k (j / 2) ≡ pair_from z w' b' k' (j / 2) = pair_alike (j / 2) (omega (arith, fits.1)) in
        let got : cell b (2 * (j / 2) + j % 2) ≡ cell b' (2 * (j / 2) + j % 2) =
        by_two (λ i. cell b i ≡ cell b' i) (2 * (j / 2)) (j % 2) (ap (λ (p : Pair). p.supremum) e) (ap (λ (p : Pair). p.count.0) e) (omega arith) in
        let here : 2 * (j / 2) + j % 2 ≡ j = omega arith in
        subst (λ (i : ℕ). cell b i ≡ cell b' i) here got)

    pub marks_alike : k ≡ k'
    marks_alike = ext_get_or false k k' (fits.2 ∙ sym fits'.2) (λ j inside.
        let n : ℕ = z.slots * z.objects in
        below_or (mark k j ≡ mark k' j) j z.slots (live_alike j) (λ past.
        below_or (mark k j ≡ mark k' j) j (called_place z 0)
        (λ less.
        let here : declared_place z (j - z.slots) ≡ j = omega arith in
        subst (λ (i : ℕ). mark k i ≡ mark k' i) here (ap (λ (p : Pair). p.declared) (pair_alike (j - z.slots) (omega arith))))
        (λ more. below_or (mark k j ≡ mark k' j) j (spoiled_place z 0)
        (λ less.
        let here : called_place z (j - called_place z 0) ≡ j = omega arith in
        subst (λ (i : ℕ). mark k i ≡ mark k' i) here (ap (λ (p : Pair). p.called) (pair_alike (j - called_place z 0) (omega arith))))
        (λ last.
        let here : spoiled_place z (j - spoiled_place z 0) ≡ j = omega arith in
        subst (λ (i : ℕ). mark k i ≡ mark k' i) here (ap (λ (p : Pair). p.spoiled) (pair_alike (j - spoiled_place z 0) (omega (arith, fits.2))))))))

    pub one_to_one : (w ≡ w') × (b ≡ b') × (k ≡ k')
    one_to_one = (words_alike, bytes_alike, marks_alike)
