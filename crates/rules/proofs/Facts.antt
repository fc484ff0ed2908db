-- The tests of the rules, each told as a plain fact.
use Prim.Native.Nat.{ℕ, ◌+◌, ◌*◌, ◌%◌, ◌<◌, ◌≤◌}
use mathlib.Core.Bool.{Bool, true, false, ◌&&◌, ◌||◌}
use mathlib.Core.List.{List, [], ◌∷◌}
use mathlib.Core.Logic.{◌≢◌, ◌↔◌}
use mathlib.Core.Path.{◌≡◌, refl}
use native.Mathlib.Omega.{arith}
use lib.Dec.{leb, ltb, eqb}
use borrow.Author.Tests.{leb-false, lt-leb, ltb-false, le-ltb, eqb-true, eqb-false, eq-eqb, ne_eqb, not-false}
use Rattle.answers.proofs.Deciding.{NoneHolds}
use Rattle.counters.specs.Sizes.{Size}
use Rattle.counters.specs.Versions.{next, turn_at, terminal_need}
use Rattle.record_layout.specs.Declarations.{Declaration}
use Rattle.objects.specs.Places.{says_released, says_wait}
use Rattle.objects.specs.declared.Object.{Object}
use Rattle.objects.specs.declared.Pair.{Pair}
use Rattle.rules.specs.Refusing.{misses, declaration_rules}

-- a declared object lies below the bound and not below the least, and of those behind it holds what holds of them
pub record RisesFirst (z : Size) (least object : ℕ) (Behind : Type 0) : Type 0 where
  pub inside : object < z.objects
  pub above : least ≤ object
  pub behind : Behind

-- the objects that a start declares lie below the bound and rise
abbrev pub Rises : Size → ℕ → List Declaration → Type 0
Rises z least [] = Unit {0}
Rises z least (declaration ∷ rest) = RisesFirst z least declaration.object (Rises z (declaration.object + 1) rest)

-- their rules pass exactly where they rise
pub declarations_rise : (z : Size) (least : ℕ) (declarations : List Declaration) → NoneHolds (declaration_rules z least declarations) ↔ Rises z least declarations
declarations_rise z least [] = (λ p. tt, λ r. tt)
declarations_rise z least (declaration ∷ rest) =
    let o : ℕ = declaration.object in
    let later = declarations_rise z (o + 1) rest in (
      λ p. record { inside = leb-false z.objects o p.0; above = ltb-false o least p.1.0; behind = later.0 p.1.1 },
      λ r. (lt-leb z.objects o r.inside, (le-ltb o least r.above, later.1 r.behind)),
    )

either_false : (a b : Bool) → a || b ≡ false → (a ≡ false) × (b ≡ false)
either_false true b e = (e, cc)
either_false false b e = (refl, e)

-- R22: neither empty, nor of odd length, nor too long
pub length_fits : (objects n : ℕ) → (eqb n 0 || (eqb (n % 2) 1 || ltb (2 * objects) n) ≡ false) ↔ ((n ≢ 0) × (n % 2 ≡ 0) × (n ≤ 2 * objects))
length_fits objects n = (tells, λ fits. rw (ne_eqb n 0 fits.0, ne_eqb (n % 2) 1 (λ odd. omega arith), le-ltb (2 * objects) n fits.2))
  where
    tells : eqb n 0 || (eqb (n % 2) 1 || ltb (2 * objects) n) ≡ false → (n ≢ 0) × (n % 2 ≡ 0) × (n ≤ 2 * objects)
    tells e =
        let some : (eqb n 0 ≡ false) × (eqb (n % 2) 1 || ltb (2 * objects) n ≡ false) = either_false (eqb n 0) (eqb (n % 2) 1 || ltb (2 * objects) n) e in
        let even : (eqb (n % 2) 1 ≡ false) × (ltb (2 * objects) n ≡ false) = either_false (eqb (n % 2) 1) (ltb (2 * objects) n) some.1 in
        let not-odd : n % 2 ≢ 1 = eqb-false (n % 2) 1 even.0 in
        (eqb-false n 0 some.0, omega arith, ltb-false (2 * objects) n even.1)

-- R8: neither released nor to wait is to have the turn
pub turn_now : (slots d : ℕ) → ((says_released (turn_at slots d) ≡ false) × (says_wait (turn_at slots d) ≡ false)) ↔ (d ≡ 1)
turn_now slots d = (λ neither. by neither (eqb d 1) refl (leb 2 d && leb d slots) refl, λ now. rw now (refl, refl))
  where
    by : (says_released (turn_at slots d) ≡ false) × (says_wait (turn_at slots d) ≡ false) → (now : Bool) → eqb d 1 ≡ now
        → (waits : Bool) → leb 2 d && leb d slots ≡ waits → d ≡ 1
    by neither true e waits f = eqb-true d 1 e
    by neither false e true f = let no_wait : true ≡ false = rw (e, f) at neither.1 in cc
    by neither false e false f = let not-released : true ≡ false = rw (e, f) at neither.0 in cc

-- R9: the terminal need on one object
pub need_met : (pair : Pair) (object : Object) → (misses pair object ≡ false) ↔ (pair.declared ≡ true → next object.terminal.0 ≡ pair.private.0)
need_met pair object = (
  λ met declared. eqb-true (next object.terminal.0) pair.private.0 (not-false (terminal_need object.terminal.0 pair.private.0) (rw declared at met)),
  λ need. by need pair.declared refl,
)
  where
    by : (pair.declared ≡ true → next object.terminal.0 ≡ pair.private.0) → (d : Bool) → pair.declared ≡ d → misses pair object ≡ false
    by need true e = rw (e, eq-eqb (next object.terminal.0) pair.private.0 (need e))
    by need false e = rw e
