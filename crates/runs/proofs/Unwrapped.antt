-- What the versions in the tables say of the versions counted from the first without wrapping, where they lie at most 256 apart.
use Prim.Native.Nat.{ℕ, suc, ◌+◌, ◌%◌, ◌≤◌}
use mathlib.Core.Bool.{Bool, true, false}
use mathlib.Core.Path.{◌≡◌, refl, ap, ◌∙◌}
use native.Mathlib.Omega.{arith}
use lib.Dec.{leb, eqb}
use borrow.Author.Tests.{eqb-true, eqb-false, eq-eqb, ne_eqb, leb-true, leb-false, le-leb, lt-leb}
use Rattle.answers.specs.Order.{pick}
use Rattle.counters.specs.Versions.{turnover, next, difference, turn_at, unwrapped_turn}
use Rattle.counters.specs.declared.Turn.TheVariants.{Released, Wait}
use Rattle.counters.proofs.Turnover.{turn_unwrapped}
use Rattle.objects.specs.Places.{says_released}

-- the version after
pub next_is : (first given : ℕ) → next ((first + given) % turnover) ≡ (first + suc given) % turnover
next_is first given = omega arith

-- R8, the turn: as many have been let go as were given out before
pub turn_is : (first given local : ℕ) → given ≤ local + 256 → local ≤ given + 256
    → difference ((first + suc given) % turnover) ((first + local) % turnover) ≡ 1 → local ≡ given
turn_is first given local below above turn = omega arith

-- R9, the terminal need: as many have ended as were given out before
pub need_is : (first given terminal : ℕ) → terminal ≤ given → given ≤ terminal + 256
    → next ((first + terminal) % turnover) ≡ (first + suc given) % turnover → given ≡ terminal
need_is first given terminal below above need = omega arith

-- both versions moved alike leave the turn
pub turn_moved : (by private local : ℕ) → unwrapped_turn (by + private) (by + local) ≡ unwrapped_turn private local
turn_moved by private local = go (eqb private (local + 1)) refl (leb private local) refl
  where
    go : (b : Bool) → eqb private (local + 1) ≡ b → (c : Bool) → leb private local ≡ c
        → unwrapped_turn (by + private) (by + local) ≡ unwrapped_turn private local
    go true e c f =
        let next : private ≡ local + 1 = eqb-true private (local + 1) e in
        rw (e, eq-eqb (by + private) (by + local + 1) (omega arith))
    go false e c f =
        let other : private ≡ local + 1 → ⊥ = eqb-false private (local + 1) e in
        rw (e, ne_eqb (by + private) (by + local + 1) (λ same. other (omega arith))) (passed c f)
      where
        passed : (c : Bool) → leb private local ≡ c → pick (leb (by + private) (by + local)) Released Wait ≡ pick (leb private local) Released Wait
        passed true f = rw (f, le-leb (by + private) (by + local) (omega (arith, leb-true private local f)))
        passed false f = rw (f, lt-leb (by + private) (by + local) (omega (arith, leb-false private local f)))

-- released says that this version has been let go
released_by : (private local : ℕ) → says_released (unwrapped_turn private local) ≡ leb private local
released_by private local = by (leb private local) refl
  where
    ahead : (b : Bool) → eqb private (local + 1) ≡ b → leb private local ≡ false → says_released (unwrapped_turn private local) ≡ leb private local
    ahead true e f = rw (e, f)
    ahead false e f = rw (e, f)

    by : (b : Bool) → leb private local ≡ b → says_released (unwrapped_turn private local) ≡ leb private local
    by false e = ahead (eqb private (local + 1)) refl e
    by true e =
        let passed : private ≤ local = leb-true private local e in
        rw (ne_eqb private (local + 1) (λ same. omega arith), e)

pub released_is : (slots first given local : ℕ) → slots ≤ 256 → suc given ≤ local + slots → local ≤ suc given + slots
    → says_released (turn_at slots (difference ((first + suc given) % turnover) ((first + local) % turnover))) ≡ leb (suc given) local
released_is slots first given local small below above =
    ap says_released (turn_unwrapped slots (first + suc given) (first + local) (omega arith) (omega arith) (omega arith))
    ∙ ap says_released (turn_moved first (suc given) local)
    ∙ released_by (suc given) local
