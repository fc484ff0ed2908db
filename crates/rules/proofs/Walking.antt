-- The laws of the walks: one turn more, what is met below the bound, what every turn keeps, and what one place shows afterwards.
use Prim.Native.Nat.{ℕ, zero, suc, ◌+◌, ◌<◌}
use mathlib.Core.Bool.{Bool, true, false, ◌||◌}
use mathlib.Core.List.{List, [], ◌++◌}
use mathlib.Core.Path.{◌≡◌, refl, sym, ap, ◌∙◌}
use native.Mathlib.Numerals.{add-one}
use native.Mathlib.Omega.{arith}
use lib.Dec.{eqb}
use borrow.Author.Tests.{eqb-true, eqb-false}
use Rattle.rules.specs.Walks.{any_below, each_below, join_below}
use Rattle.rules.proofs.Picking.{or_true}

module _ (test : ℕ → Bool) where
  -- no turn yet, and one turn more: at suc k, and at k + 1 as a loop counts
  pub any_zero : any_below 0 test ≡ false
  unfolding any_below
  any_zero = refl

  pub any_suc : (k : ℕ) → any_below (suc k) test ≡ any_below k test || test k
  unfolding any_below
  any_suc k = refl

  pub any_next : (k : ℕ) → any_below (k + 1) test ≡ any_below k test || test k
  any_next k = rw (add-one k) (any_suc k)

module _ {A : Type 0} (turn : ℕ → A → A) (start : A) where
  pub each_zero : each_below 0 turn start ≡ start
  unfolding each_below
  each_zero = refl

  pub each_suc : (k : ℕ) → each_below (suc k) turn start ≡ turn k (each_below k turn start)
  unfolding each_below
  each_suc k = refl

  pub each_next : (k : ℕ) → each_below (k + 1) turn start ≡ turn k (each_below k turn start)
  each_next k = rw (add-one k) (each_suc k)

module _ {A : Type 0} (part : ℕ → List A) where
  pub join_zero : join_below 0 part ≡ []
  unfolding join_below
  join_zero = refl

  pub join_suc : (k : ℕ) → join_below (suc k) part ≡ join_below k part ++ part k
  unfolding join_below
  join_suc k = refl

  pub join_next : (k : ℕ) → join_below (k + 1) part ≡ join_below k part ++ part k
  join_next k = rw (add-one k) (join_suc k)

-- some number below the bound that meets the test
pub record Met (k : ℕ) (test : ℕ → Bool) : Type 0 where
  pub number : ℕ
  pub below : number < k
  pub meets : test number ≡ true

-- the test of any is true exactly where some number below the bound meets the test
pub any_met : (k : ℕ) (test : ℕ → Bool) → any_below k test ≡ true → Met k test
unfolding any_below
any_met zero test h = let clash : ◌≡◌ {A = ℕ} 0 1 = cc in absurd (omega arith)
any_met (suc k) test h = by (any_below k test) refl (any_met k test)
  where
    by : (earlier : Bool) → any_below k test ≡ earlier → (any_below k test ≡ true → Met k test) → Met (suc k) test
    by true e below = let m : Met k test = below e in record { number = m.number; below = omega arith; meets = m.meets }
    by false e below = record { number = k; below = omega arith; meets = rw e at h }

pub any_of : (k : ℕ) (test : ℕ → Bool) (j : ℕ) → j < k → test j ≡ true → any_below k test ≡ true
unfolding any_below
any_of zero test j below meets = absurd (omega arith)
any_of (suc k) test j below meets = by (eqb j k) refl (any_of k test j)
  where
    by : (last : Bool) → eqb j k ≡ last → (j < k → test j ≡ true → any_below k test ≡ true) → any_below k test || test k ≡ true
    by true e earlier = rw (sym (ap test (eqb-true j k e)) ∙ meets) (or_true (any_below k test))
    by false e earlier = rw (earlier (omega (arith, eqb-false j k e)) meets)

-- and false exactly where none does
pub any_none : (k : ℕ) (test : ℕ → Bool) → any_below k test ≡ false → (j : ℕ) → j < k → test j ≡ false
any_none k test none j below = by (test j) refl
  where
    by : (met : Bool) → test j ≡ met → test j ≡ false
    by false e = e
    by true e = cc (any_of k test j below e)

pub none_any : (k : ℕ) (test : ℕ → Bool) → ((j : ℕ) → j < k → test j ≡ false) → any_below k test ≡ false
unfolding any_below
none_any zero test none = refl
none_any (suc k) test none = rw (none_any k test (λ j below. none j (omega arith)), none k (omega arith))

-- what agrees below the bound walks alike
pub any_agrees : (k : ℕ) (f g : ℕ → Bool) → ((j : ℕ) → j < k → f j ≡ g j) → any_below k f ≡ any_below k g
unfolding any_below
any_agrees zero f g agree = refl
any_agrees (suc k) f g agree = rw (any_agrees k f g (λ j below. agree j (omega arith)), agree k (omega arith))

pub each_agrees : {A : Type 0} (k : ℕ) (f g : ℕ → A → A) (start : A) → ((j : ℕ) (a : A) → j < k → f j a ≡ g j a)
    → each_below k f start ≡ each_below k g start
unfolding each_below
each_agrees zero f g start agree = refl
each_agrees (suc k) f g start agree =
    rw (each_agrees k f g start (λ j a below. agree j a (omega arith))) (agree k (each_below k g start) (omega arith))

pub join_agrees : {A : Type 0} (k : ℕ) (f g : ℕ → List A) → ((j : ℕ) → j < k → f j ≡ g j) → join_below k f ≡ join_below k g
unfolding join_below
join_agrees zero f g agree = refl
join_agrees (suc k) f g agree = rw (join_agrees k f g (λ j below. agree j (omega arith)), agree k (omega arith))

-- every turn below the bound keeps P
abbrev pub Keeps : {A : Type 0} → (A → Type 0) → ℕ → (ℕ → A → A) → Type 0
Keeps {A} P k turn = (j : ℕ) (a : A) → j < k → P a → P (turn j a)

module _ {A : Type 0} (P : A → Type 0) (turn : ℕ → A → A) (start : A) (holds : P start) where
  -- what each turn keeps is kept
  pub each_keeps : (k : ℕ) → Keeps P k turn → P (each_below k turn start)
  unfolding each_below
  each_keeps zero keeps = holds
  each_keeps (suc k) keeps = keeps k (each_below k turn start) (omega arith) (each_keeps k (λ j a below. keeps j a (omega arith)))

module _ {A B : Type 0} (P : A → Type 0) (turn : ℕ → A → A) (start : A) (holds : P start) (see : A → B) where
  -- what no turn touches is seen as it was
  pub each_leaves : (k : ℕ) → Keeps P k turn → ((j : ℕ) (a : A) → j < k → P a → see (turn j a) ≡ see a) → see (each_below k turn start) ≡ see start
  each_leaves k keeps leaves =
      (each_keeps (λ a. P a × (see a ≡ see start)) turn start (holds, refl) k
      (λ j a below both. (keeps j a below both.0, leaves j a below both.0 ∙ both.1))).1

  -- what turn i alone touches is seen changed by it, once
  pub each_sees : (k i : ℕ) (change : B → B) → i < k → Keeps P k turn
      → ((j : ℕ) (a : A) → j < k → (j ≡ i → ⊥) → P a → see (turn j a) ≡ see a)
      → ((a : A) → P a → see (turn i a) ≡ change (see a))
      → see (each_below k turn start) ≡ change (see start)
  unfolding each_below
  each_sees zero i change inside keeps other own = absurd (omega arith)
  each_sees (suc k) i change inside keeps other own =
      by (eqb k i) refl (λ earlier. each_sees k i change earlier before (λ j a below. other j a (omega arith)) own)
    where
      before : Keeps P k turn
      before j a below = keeps j a (omega arith)

      so_far : A
      so_far = each_below k turn start

      kept : P so_far
      kept = each_keeps P turn start holds k before

      by : (last : Bool) → eqb k i ≡ last → (i < k → see so_far ≡ change (see start)) → see (turn k so_far) ≡ change (see start)
      by false e earlier = other k so_far (omega arith) (eqb-false k i e) kept ∙ earlier (omega (arith, eqb-false k i e))
      by true e earlier =
          let last : k ≡ i = eqb-true k i e in
          ap (λ (n : ℕ). see (turn n so_far)) last
          ∙ own so_far kept
          ∙ ap change (each_leaves k before (λ j a below. other j a (omega arith) (λ same. omega arith)))
