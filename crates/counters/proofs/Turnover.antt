-- The versions survive their turnover: next and difference undo each other, and what is decided on remainders is what the versions
-- counted without wrapping say, as long as the two lie close together.
use Rattle.std.proofs.Common.{◌≡◌, ℕ, ◌+◌, ◌-◌, ◌%◌, ◌<◌, ◌≤◌, Bool, true, false, ◌&&◌, eqb, leb, refl, ◌∙◌, arith, eq-eqb, ne_eqb, eqb-true, le-leb, leb-false, leb-true}
use borrow.Author.Tests.{lt-leb, eqb-false}
use Rattle.answers.specs.Order.{pick}
use Rattle.counters.specs.Versions.{turnover, next, difference, turn_at, unwrapped_turn, terminal_need}
use Rattle.counters.specs.declared.Turn.TheVariants.{Now, Wait, Released}

pub difference_of_sum : (v e : ℕ) → v < turnover → e < turnover → difference ((v + e) % turnover) v ≡ e
difference_of_sum v e hv he = omega arith

pub sum_of_difference : (a b : ℕ) → a < turnover → b < turnover → (b + difference a b) % turnover ≡ a
sum_of_difference a b ha hb = omega arith

pub next_then_difference : (v : ℕ) → v < turnover → difference (next v) v ≡ 1
next_then_difference v hv = omega arith

pub difference_above : (p l : ℕ) → l ≤ p → p < l + turnover → difference (p % turnover) (l % turnover) ≡ p - l
difference_above p l h k = omega arith

pub difference_below : (p l : ℕ) → p < l → l ≤ p + turnover → difference (p % turnover) (l % turnover) ≡ turnover - (l - p)
difference_below p l h k = omega arith

-- what d says
pub now_at : (slots d : ℕ) → d ≡ 1 → turn_at slots d ≡ Now
now_at slots d e = simp (eq-eqb _ _ e)

pub wait_at : (slots d : ℕ) → 2 ≤ d → d ≤ slots → turn_at slots d ≡ Wait
wait_at slots d h k =
    let n : d ≡ 1 → ⊥ = λ e. omega arith in
    simp (ne_eqb _ _ n, le-leb _ _ h, le-leb _ _ k)

pub released_at : (slots d : ℕ) → (d ≡ 1 → ⊥) → (2 ≤ d → slots < d) → turn_at slots d ≡ Released
released_at slots d n far = simp (ne_eqb _ _ n) (go (leb 2 d) refl)
  where
    go : (t : Bool) → leb 2 d ≡ t → pick (leb 2 d && leb d slots) Wait Released ≡ Released
    go true e = simp (e, lt-leb _ _ (far (leb-true _ _ e)))
    go false e = simp e

-- where the private and the local version lie at most `slots` apart, the remainders tell whose turn it is
pub turn_unwrapped : (slots p l : ℕ) → slots + slots < turnover → p ≤ l + slots → l ≤ p + slots
    → turn_at slots (difference (p % turnover) (l % turnover)) ≡ unwrapped_turn p l
turn_unwrapped slots p l small below above = behind (leb p l) refl
  where
    d : ℕ
    d = difference (p % turnover) (l % turnover)

    ahead : (t : Bool) → eqb p (l + 1) ≡ t → l < p → turn_at slots d ≡ unwrapped_turn p l
    ahead true e h =
        let q : p ≡ l + 1 = eqb-true _ _ e in
        now_at slots d (omega arith) ∙ simp e
    ahead false e h =
        let n : p ≡ l + 1 → ⊥ = eqb-false _ _ e in
        wait_at slots d (omega arith) (omega arith) ∙ simp (e, lt-leb _ _ h)

    behind : (t : Bool) → leb p l ≡ t → turn_at slots d ≡ unwrapped_turn p l
    behind true e =
        let h : p ≤ l = leb-true _ _ e in
        let n : p ≡ l + 1 → ⊥ = λ q. omega arith in
        released_at slots d (λ (q : d ≡ 1). omega arith) (λ q. omega arith) ∙ simp (ne_eqb _ _ n, e)
    behind false e = ahead (eqb p (l + 1)) refl (leb-false _ _ e)

-- the terminal need on remainders is the need of the versions counted without wrapping
pub need_unwrapped : (t p : ℕ) → p < t + turnover → t + 1 < p + turnover → terminal_need (t % turnover) (p % turnover) ≡ eqb (t + 1) p
need_unwrapped t p below above = go (eqb (t + 1) p) refl
  where
    go : (k : Bool) → eqb (t + 1) p ≡ k → terminal_need (t % turnover) (p % turnover) ≡ k
    go true e =
        let q : t + 1 ≡ p = eqb-true _ _ e in
        eq-eqb (next (t % turnover)) (p % turnover) (omega arith)
    go false e =
        let n : t + 1 ≡ p → ⊥ = eqb-false _ _ e in
        ne_eqb _ _ (λ (q : next (t % turnover) ≡ p % turnover). omega arith)
