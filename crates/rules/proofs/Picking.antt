-- Laws of tests and of what they pick.
use Prim.Native.Nat.{ℕ}
use mathlib.Core.Bool.{Bool, true, false, ◌&&◌, ◌||◌}
use mathlib.Core.Path.{◌≡◌, refl, sym, ap}
use native.Mathlib.Omega.{arith}
use Rattle.answers.specs.Order.{pick}

-- a test beside one that is known
pub and_false : (a : Bool) → a && false ≡ false
and_false true = refl
and_false false = refl

pub and_true : (a : Bool) → a && true ≡ a
and_true true = refl
and_true false = refl

pub and_assoc : (a b c : Bool) → (a && b) && c ≡ a && (b && c)
and_assoc true b c = refl
and_assoc false b c = refl

pub or_true : (a : Bool) → a || true ≡ true
or_true true = refl
or_true false = refl

pub or_false : (a : Bool) → a || false ≡ a
or_false true = refl
or_false false = refl

-- no test both holds and fails
pub clash : true ≡ false → ⊥
clash e = let one : ◌≡◌ {A = ℕ} 0 1 = ap (λ (b : Bool). pick b 0 1) e in omega arith

-- what holds of either, under its test, holds of what is picked
pub pick_when : {A : Type 0} (P : A → Type 0) (test : Bool) {a b : A} → (test ≡ true → P a) → (test ≡ false → P b) → P (pick test a b)
pick_when P true yes-holds no-holds = yes-holds refl
pick_when P false yes-holds no-holds = no-holds refl

-- what is seen of what is picked is picked of what is seen
pub pick_seen : {A B : Type 0} (see : A → B) (test : Bool) (a b : A) → see (pick test a b) ≡ pick test (see a) (see b)
pick_seen see true a b = refl
pick_seen see false a b = refl

-- both alike
pub pick_same : {A : Type 0} (test : Bool) (a : A) → pick test a a ≡ a
pick_same true a = refl
pick_same false a = refl

-- a pick inside a pick
pub pick_nested : {A : Type 0} (a b : Bool) (x y w : A) → pick (a && b) x (pick a y w) ≡ pick a (pick b x y) w
pick_nested true b x y w = refl
pick_nested false b x y w = refl

pub pick_both : {A : Type 0} (a b : Bool) (x y : A) → pick a (pick b x y) y ≡ pick (a && b) x y
pick_both true b x y = refl
pick_both false b x y = refl

-- what stands at o is what stands at q, where a test says that they are one
pub pick_moved : {A : Type 0} (f : ℕ → A) (other : A) (test : Bool) (q o : ℕ) → (test ≡ true → q ≡ o) → pick test (f o) other ≡ pick test (f q) other
pick_moved f other true q o same = ap f (sym (same refl))
pick_moved f other false q o same = refl
