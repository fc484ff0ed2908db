-- The comparison of two versions: its limits, that changing A and B over changes the answer over, and that it is the order of versions
-- counted on past the turnover.
use Rattle.std.proofs.Common.{◌≡◌, ℕ, ◌+◌, ◌%◌, ◌<◌, ◌≤◌, Bool, true, false, eqb, leb, sym, refl, ap, ◌∙◌, arith, eq-eqb, ne_eqb, eqb-true, le-leb, leb-false, leb-true}
use borrow.Author.Tests.{lt-leb, eqb-false}
use Rattle.counters.specs.Versions.{turnover, difference}
use Rattle.counters.specs.Comparing.{by_difference, compared, swapped}
use Rattle.counters.specs.declared.Comparison.TheVariants.{A, B, Same, Far}

-- what e says
pub same_at : (e : ℕ) → e ≡ 0 → by_difference e ≡ Same
same_at e q = simp (eq-eqb _ _ q)

pub a_at : (e : ℕ) → 0 < e → e ≤ 2147483647 → by_difference e ≡ A
a_at e h k =
    let n : e ≡ 0 → ⊥ = λ q. omega arith in
    simp (ne_eqb _ _ n, le-leb _ _ k)

pub far_at : (e : ℕ) → e ≡ 2147483648 → by_difference e ≡ Far
far_at e q = rw q

pub b_at : (e : ℕ) → 2147483648 < e → by_difference e ≡ B
b_at e h =
    let n : e ≡ 0 → ⊥ = λ q. omega arith in
    let k : 2147483647 < e = omega arith in
    let m : e ≡ 2147483648 → ⊥ = λ q. omega arith in
    simp (ne_eqb _ _ n, lt-leb _ _ k, ne_eqb _ _ m)

-- the limits of R36: e of 2147483647 is A, e of 2147483648 is Far
pub last_a : (v : ℕ) → v < turnover → compared v ((v + 2147483647) % turnover) ≡ A
last_a v h = a_at (difference ((v + 2147483647) % turnover) v) (omega arith) (omega arith)

pub only_far : (v : ℕ) → v < turnover → compared v ((v + 2147483648) % turnover) ≡ Far
only_far v h = far_at (difference ((v + 2147483648) % turnover) v) (omega arith)

-- changing A and B over changes the answer over; so Same and Far are symmetric
pub compared_swapped : (a b : ℕ) → a < turnover → b < turnover → compared b a ≡ swapped (compared a b)
compared_swapped a b ha hb = same (eqb e 0) refl
  where
    e : ℕ
    e = difference b a

    f : ℕ
    f = difference a b

    far : (t : Bool) → eqb e 2147483648 ≡ t → 2147483647 < e → compared b a ≡ swapped (compared a b)
    far true q h =
        let k : e ≡ 2147483648 = eqb-true _ _ q in
        far_at f (omega arith) ∙ ap swapped (sym (far_at e k))
    far false q h =
        let n : e ≡ 2147483648 → ⊥ = eqb-false _ _ q in
        a_at f (omega arith) (omega arith) ∙ ap swapped (sym (b_at e (omega arith)))

    first : (t : Bool) → leb e 2147483647 ≡ t → (e ≡ 0 → ⊥) → compared b a ≡ swapped (compared a b)
    first true q n =
        let k : e ≤ 2147483647 = leb-true _ _ q in
        b_at f (omega arith) ∙ ap swapped (sym (a_at e (omega arith) k))
    first false q n = far (eqb e 2147483648) refl (leb-false _ _ q)

    same : (t : Bool) → eqb e 0 ≡ t → compared b a ≡ swapped (compared a b)
    same true q =
        let k : e ≡ 0 = eqb-true _ _ q in
        same_at f (omega arith) ∙ ap swapped (sym (same_at e k))
    same false q = first (leb e 2147483647) refl (eqb-false _ _ q)

-- R37: the order of versions counted on past the turnover, where they lie less than half of it apart
pub first_unwrapped : (p q : ℕ) → p < q → q < p + 2147483648 → compared (p % turnover) (q % turnover) ≡ A
first_unwrapped p q h k = a_at (difference (q % turnover) (p % turnover)) (omega arith) (omega arith)
