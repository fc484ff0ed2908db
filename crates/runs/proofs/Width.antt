-- At most as many versions of an object are live as there are slots: whoever declared it has ended or has a slot to itself.
use Prim.Native.Nat.{ℕ, zero, suc, ◌+◌, ◌<◌, ◌≤◌}
use mathlib.Core.Bool.{Bool, true, false, ◌&&◌}
use mathlib.Core.List.{List, [], ◌∷◌}
use mathlib.Core.Path.{◌≡◌, refl}
use native.Mathlib.Omega.{arith}
use lib.ListN.{get_or, get_or-eq_default}
use lib.Dec.{eqb, ltb}
use borrow.Author.Tests.{eqb-true, eqb-false, eq-eqb, ltb-true, ltb-false, lt-ltb, le-ltb}
use Rattle.answers.specs.Order.{pick}
use Rattle.counters.specs.Sizes.{Size}
use Rattle.record_layout.specs.Declarations.{names}
use Rattle.rules.specs.Tables.{live_at}
use Rattle.runs.specs.Histories.{History, is_live, lives_in}
use Rattle.runs.specs.Companions.{LiveOnce, count_live, declarers}
use Rattle.runs.specs.Runs.{Run}
use Rattle.rules.proofs.Picking.{and_false}
use Rattle.runs.proofs.Scan.{Standing, declares, word_after, Scan}
use Rattle.rules.proofs.Stores.{Sized}
use Rattle.runs.proofs.Invariant.{Object, Invariant, standing}

-- how many transactions are live, and how many of them in a slot below a bound
abbrev pub live_total : History → ℕ
live_total [] = 0
live_total (x ∷ xs) = pick (is_live x.status) 1 0 + live_total xs

abbrev live_below : ℕ → History → ℕ
live_below n [] = 0
live_below n (x ∷ xs) = pick (is_live x.status && ltb x.slot n) 1 0 + live_below n xs

-- one slot more counts its own live transactions
one_below : (n slot : ℕ) (live : Bool) → pick (live && ltb slot (suc n)) 1 0 ≡ pick (live && ltb slot n) 1 0 + pick (live && eqb slot n) 1 0
one_below n slot false = refl
one_below n slot true = by (ltb slot n) refl (eqb slot n) refl
  where
    by : (under : Bool) → ltb slot n ≡ under → (same : Bool) → eqb slot n ≡ same
        → pick (ltb slot (suc n)) 1 0 ≡ pick (ltb slot n) 1 0 + pick (eqb slot n) 1 0
    by true e true f = absurd (omega (arith, ltb-true slot n e, eqb-true slot n f))
    by true e false f = let under : slot < suc n = omega (arith, ltb-true slot n e) in rw (e, f, lt-ltb slot (suc n) under)
    by false e true f = let under : slot < suc n = omega (arith, eqb-true slot n f) in rw (e, f, lt-ltb slot (suc n) under)
    by false e false f = let over : suc n ≤ slot = omega (arith, ltb-false slot n e, eqb-false slot n f) in rw (e, f, le-ltb slot (suc n) over)

below_zero : (xs : History) → live_below 0 xs ≡ 0
below_zero [] = refl
below_zero (x ∷ xs) = rw (le-ltb x.slot 0 (omega arith), and_false (is_live x.status)) (omega (arith, below_zero xs))

below_suc : (n : ℕ) (xs : History) → live_below (suc n) xs ≡ live_below n xs + count_live n xs
below_suc n [] = refl
below_suc n (x ∷ xs) = omega (arith, one_below n x.slot (is_live x.status), below_suc n xs)

-- each slot has at most one
slots_bound : (xs : History) → ((s : ℕ) → count_live s xs ≤ 1) → (n : ℕ) → live_below n xs ≤ n
slots_bound xs once zero = omega (arith, below_zero xs)
slots_bound xs once (suc n) = omega (arith, below_suc n xs, once n, slots_bound xs once n)

-- and past the last slot nobody is live
total_below : (n : ℕ) (xs : History) → ((s : ℕ) → n ≤ s → count_live s xs ≡ 0) → live_total xs ≤ live_below n xs
total_below n [] outside = omega arith
total_below n (x ∷ xs) outside = by (is_live x.status) refl (ltb x.slot n) refl (total_below n xs (λ s past. omega (arith, outside s past)))
  where
    by : (live : Bool) → is_live x.status ≡ live → (under : Bool) → ltb x.slot n ≡ under → live_total xs ≤ live_below n xs
        → live_total (x ∷ xs) ≤ live_below n (x ∷ xs)
    by false e under f rest = rw e (omega arith)
    by true e true f rest = rw (e, f) (omega arith)
    by true e false f rest =
        let none : pick (lives_in x.slot x) 1 0 + count_live x.slot xs ≡ 0 = outside x.slot (ltb-false x.slot n f) in
        let one : 1 + count_live x.slot xs ≡ 0 = rw (e, eq-eqb x.slot x.slot refl) at none in
        absurd (omega arith)

-- the live transactions are at most as many as the slots
pub live_bound : (z : Size) (run : Run) → Sized z run.tables → LiveOnce run → live_total run.history ≤ z.slots
live_bound z run sized once =
    omega (arith, total_below z.slots run.history outside, slots_bound run.history at_most z.slots)
  where
    outside : (s : ℕ) → z.slots ≤ s → count_live s run.history ≡ 0
    outside s past =
        let idle : live_at run.tables s ≡ false = get_or-eq_default run.tables.live false {n = s} (omega (arith, sized.live)) in
        rw idle at (once s)

    at_most : (s : ℕ) → count_live s run.history ≤ 1
    at_most s = by (live_at run.tables s) refl
      where
        by : (live : Bool) → live_at run.tables s ≡ live → count_live s run.history ≤ 1
        by true e = let one : count_live s run.history ≡ 1 = rw e at (once s) in omega arith
        by false e = let one : count_live s run.history ≡ 0 = rw e at (once s) in omega arith

-- along a scan: a declarer that has ended lies below the terminal, and a live one raises the bound
declared_bound : (o first : ℕ) (v : Standing) (bound given word : ℕ) (xs : History) → v.terminal ≤ bound → given ≤ bound
    → Scan o first v given word xs → given + declarers o xs ≤ bound + live_total xs
declared_bound o first v bound given word [] over under scan = omega arith
declared_bound o first v bound given word (x ∷ xs) over under scan =
    omega (
      arith,
      declared_bound o first v (bound + counted) (given + declares o x) (word_after o v word x) xs (omega arith)
          (step (is_live x.status) refl (names x.declarations o) refl) scan.1,
    )
  where
    counted : ℕ
    counted = pick (is_live x.status) 1 0

    step : (live : Bool) → is_live x.status ≡ live → (named : Bool) → names x.declarations o ≡ named → given + declares o x ≤ bound + counted
    step true e true f = rw (e, f) (omega arith)
    step live e false f = rw f (omega arith)
    step false e true f = rw (e, f) (omega (arith, scan.0.past e f))

pub width : (z : Size) (words : List ℕ) (first : ℕ) (run : Run) (inv : Invariant z words first run) (o : ℕ) (below : o < z.objects)
    → declarers o run.history ≤ (inv.objects o below).terminal + z.slots
width z words first run inv o below = omega (arith, scanned, live_bound z run inv.sized inv.live)
  where
    object : Object z words first run.tables run.history o
    object = inv.objects o below

    scanned : 0 + declarers o run.history ≤ object.terminal + live_total run.history
    scanned =
        declared_bound o first (standing z run.tables o object.terminal object.local) object.terminal 0 (get_or words o 0)
        run.history (omega arith) (omega arith) object.scan
