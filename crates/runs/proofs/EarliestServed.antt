-- The earliest live transaction is never told to wait, and its end is accepted: from what every event of a run keeps.
use Prim.Native.Nat.{ℕ, suc, ◌+◌, ◌%◌, ◌<◌, ◌≤◌}
use mathlib.Core.Bool.{Bool, true, false}
use mathlib.Core.List.{List, [], ◌∷◌}
use mathlib.Core.Path.{◌≡◌, refl, sym, ap, subst, ◌∙◌}
use native.Mathlib.Omega.{arith}
use lib.Dec.{eqb}
use lib.ListN.{get_or}
use borrow.Author.Tests.{eqb-false, eq-eqb, le-leb}
use Rattle.counters.specs.Sizes.{Size}
use Rattle.counters.specs.Versions.{turnover, next, unwrapped_turn}
use Rattle.counters.proofs.Turnover.{turn_unwrapped}
use Rattle.record_layout.specs.Declarations.{names}
use Rattle.objects.specs.Places.{turn_of, says_wait}
use Rattle.objects.specs.declared.Pair.{Pair}
use Rattle.rules.specs.Tables.{State, object_at, live_at, pair_at}
use Rattle.runs.specs.Histories.{History, Transaction, is_live}
use Rattle.runs.specs.Runs.{Within, Run}
use Rattle.runs.specs.Demands.{Earliest, Served, any_live}
use Rattle.runs.specs.Companions.{count_live, declarers}
use Rattle.rules.proofs.Picking.{clash}
use Rattle.runs.proofs.Found.{count_append}
use Rattle.runs.proofs.Scan.{Standing, declares, word_after, replayed, LiveFact, Scan}
use Rattle.runs.proofs.Exchanged.{Parts, scan_parts}
use Rattle.runs.proofs.Invariant.{standing, Object, Invariant}
use Rattle.runs.proofs.Untouched.{live_inside}
use Rattle.runs.proofs.Width.{width}
use Rattle.runs.proofs.DueServed.{due_served}

module _ (o first : ℕ) (v : Standing) where
  -- where none is live, whoever declares the object has ended, and its version is not above the terminal version
  all_ended : (given word : ℕ) (xs : History) → any_live xs ≡ false → given ≤ v.terminal → Scan o first v given word xs
      → given + declarers o xs ≤ v.terminal
  all_ended given word [] none low scan = omega arith
  all_ended given word (x ∷ xs) none low scan = by (is_live x.status) refl (all_ended (given + declares o x) (word_after o v word x) xs)
    where
      own : is_live x.status ≡ false → (named : Bool) → names x.declarations o ≡ named → given + declares o x ≤ v.terminal
      own ended true e = let past : given < v.terminal = scan.0.past ended e in rw e (omega arith)
      own ended false e = rw e (omega arith)

      by : (live : Bool) → is_live x.status ≡ live
          → (any_live xs ≡ false → given + declares o x ≤ v.terminal → Scan o first v (given + declares o x) (word_after o v word x) xs
          → given + declares o x + declarers o xs ≤ v.terminal)
          → given + declarers o (x ∷ xs) ≤ v.terminal
      by true e rest = absurd (clash (rw e at none))
      by false e rest = omega (arith, rest (rw e at none) (own e (names x.declarations o) refl) scan.1)

-- a version that is at most the next does not wait
next_no_wait : (private local : ℕ) → private ≤ local + 1 → says_wait (unwrapped_turn private local) ≡ false
next_no_wait private local near = by (eqb private (local + 1)) refl
  where
    by : (now : Bool) → eqb private (local + 1) ≡ now → says_wait (unwrapped_turn private local) ≡ false
    by true e = rw e
    by false e = rw (e, le-leb private local (omega (arith, eqb-false private (local + 1) e)))

module _ {z : Size} {words : List ℕ} {first : ℕ} {t : State} {history : History} {o : ℕ} (object : Object z words first t history o)
    {x : Transaction} (earliest : Earliest history x) where
  -- the object as its scan sees it
  abbrev seen : Standing
  seen = standing z t o object.terminal object.local

  parts : Parts o first seen (get_or words o 0) earliest.before x earliest.behind
  parts =
      scan_parts o first seen (get_or words o 0) earliest.before x earliest.behind
      (subst (Scan o first seen 0 (get_or words o 0)) earliest.all object.scan)

  -- all that declared the object before it have ended, so its version is the one after the terminal version
  private_is : (pair_at z t x.slot o).declared ≡ true → (pair_at z t x.slot o).private.0 ≡ (first + suc object.terminal) % turnover
  private_is declared = by (names x.declarations o) refl
    where
      by : (named : Bool) → names x.declarations o ≡ named → (pair_at z t x.slot o).private.0 ≡ (first + suc object.terminal) % turnover
      by true e =
          let own : LiveFact o first seen (declarers o earliest.before) (replayed o seen (get_or words o 0) earliest.before) x =
          parts.fact.live earliest.live e in
          let ended : 0 + declarers o earliest.before ≤ object.terminal =
          all_ended o first seen 0 (get_or words o 0) earliest.before earliest.first (omega arith) parts.before_scan in
          let same : declarers o earliest.before ≡ object.terminal = omega (arith, own.ahead) in
          own.private ∙ rw same
      by false e = absurd (clash (sym declared ∙ ap (λ (pair : Pair). pair.declared) (parts.fact.none earliest.live e)))

  due_next : (pair_at z t x.slot o).declared ≡ true → next (object_at t o).terminal.0 ≡ (pair_at z t x.slot o).private.0
  due_next declared = omega (arith, object.terminal_is, private_is declared)

  -- and at most the one after the local version
  turn_come : z.slots ≤ 256 → 1 ≤ z.slots → declarers o history ≤ object.terminal + z.slots → (pair_at z t x.slot o).declared ≡ true
      → says_wait (turn_of z.slots (pair_at z t x.slot o) (object_at t o)) ≡ false
  turn_come few some wide declared =
      rw (
        private_is declared,
        object.local_is,
        turn_unwrapped z.slots (first + suc object.terminal) (first + object.local) (omega arith) (omega (arith, object.low)) (omega (arith, object.high)),
      )
      (next_no_wait (first + suc object.terminal) (first + object.local) (omega (arith, object.low)))

module _ (z : Size) (within : Within z) {words : List ℕ} {first : ℕ} {run : Run} (inv : Invariant z words first run)
    (x : Transaction) (earliest : Earliest run.history x) where
  -- its slot is live, and so inside the tables
  counted : 1 ≤ count_live x.slot run.history
  counted =
      rw (earliest.all, count_append x.slot earliest.before (x ∷ earliest.behind), earliest.live, eq-eqb x.slot x.slot refl)
      (omega arith)

  slot_live : (live : Bool) → live_at run.tables x.slot ≡ live → live_at run.tables x.slot ≡ true
  slot_live true e = e
  slot_live false e = let none : count_live x.slot run.history ≡ 0 = inv.live x.slot ∙ rw e in absurd (omega (arith, counted))

  live : live_at run.tables x.slot ≡ true
  live = slot_live (live_at run.tables x.slot) refl

  slot : x.slot < z.slots
  slot = live_inside z run.tables inv.sized x.slot live

  pub earliest_served : Served z run.tables x.slot
  earliest_served =
      due_served z run.tables x.slot
      (record {
        slot = slot;
        live = live;
        turn = λ o below. turn_come (inv.objects o below) earliest within.slots (omega (arith, slot)) (width z words first run inv o below);
        need = λ o below. due_next (inv.objects o below) earliest;
      })
