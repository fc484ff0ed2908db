-- Global, local and terminal of every object lie within the slots, and the live declarers have the versions between, in start order.
use Prim.Native.Nat.{ℕ, suc, ◌+◌, ◌-◌, ◌%◌, ◌<◌, ◌≤◌}
use mathlib.Core.Bool.{true}
use mathlib.Core.List.{List}
use mathlib.Core.Path.{◌≡◌, refl, ap, ◌∙◌}
use native.Mathlib.Omega.{arith}
use lib.ListN.{get_or}
use borrow.Author.Tests.{lt-leb}
use Rattle.counters.specs.Sizes.{Size}
use Rattle.counters.specs.Versions.{turnover, difference, unwrapped_turn}
use Rattle.counters.proofs.Turnover.{difference_above, turn_unwrapped}
use Rattle.counters.specs.declared.Turn.{Turn}
use Rattle.counters.specs.declared.Turn.TheVariants.{Now, Wait, Released}
use Rattle.objects.specs.Places.{turn_of}
use Rattle.rules.specs.Tables.{State, object_at, live_at, pair_at}
use Rattle.rules.specs.Steps.{release_step}
use Rattle.runs.specs.Histories.{Transaction}
use Rattle.runs.specs.Companions.{Between, declarers, told_of}
use Rattle.runs.specs.Runs.{Within, Run}
use Rattle.runs.proofs.Scan.{Standing, LiveFact}
use Rattle.runs.proofs.Invariant.{Object, Invariant, standing}
use Rattle.runs.proofs.Unwrapped.{turn_moved}
use Rattle.runs.proofs.Untouched.{live_inside, declared_lives}
use Rattle.runs.proofs.Width.{width}
use Rattle.runs.proofs.LiveDeclarers.{numbered_alike, follow}

-- what a release of a declared object in a live slot is told
release_told : (z : Size) (t : State) (s o : ℕ) → s < z.slots → live_at t s ≡ true → o < z.objects → (pair_at z t s o).declared ≡ true
    → (release_step z t s o).reply.number ≡ told_of (turn_of z.slots (pair_at z t s o) (object_at t o))
release_told z t s o slot live object declared = by (turn_of z.slots (pair_at z t s o) (object_at t o)) refl
  where
    by : (turn : Turn) → turn_of z.slots (pair_at z t s o) (object_at t o) ≡ turn
        → (release_step z t s o).reply.number ≡ told_of (turn_of z.slots (pair_at z t s o) (object_at t o))
    by Now e = rw (lt-leb z.slots s slot, live, lt-leb z.objects o object, declared, e)
    by Wait e = rw (lt-leb z.slots s slot, live, lt-leb z.objects o object, declared, e)
    by Released e = rw (lt-leb z.slots s slot, live, lt-leb z.objects o object, declared, e)

pub between : (z : Size) → Within z → (words : List ℕ) (first : ℕ) (run : Run) → Invariant z words first run
    → (o : ℕ) → o < z.objects → Between z run o
between z within words first run inv o below =
    record {
      wide = rw global (omega (arith, wide));
      local = rw (global, local) (omega (arith, object.high));
      versions =
          rw (global, object.terminal_is)
          (follow o first last v (λ x. (pair_at z t x.slot o).private.0) (λ given. (first + suc given) % turnover) (λ given word x inside fact. fact.private)
          0 (get_or words o 0) run.history object.scan object.terminal count (omega arith) (omega (arith, object.low, object.high)) (omega arith)
          ∙ numbered_alike count (λ k. (first + suc (object.terminal + k)) % turnover) (λ k. ((first + object.terminal) % turnover + suc k) % turnover)
          (λ k. omega arith));
      turns =
          rw (global, local)
          (follow o first last v (λ x. (release_step z t x.slot o).reply.number)
          (λ given. told_of (unwrapped_turn (first + suc given) (first + object.local))) told
          0 (get_or words o 0) run.history object.scan object.terminal count (omega arith) (omega (arith, object.low, object.high)) (omega arith)
          ∙ numbered_alike count (λ k. told_of (unwrapped_turn (first + suc (object.terminal + k)) (first + object.local)))
          (λ k. told_of (unwrapped_turn (suc k) (object.local - object.terminal))) (λ k. ap told_of (from_terminal k)));
    }
  where
    t : State
    t = run.tables

    object : Object z words first run.tables run.history o
    object = inv.objects o below

    v : Standing
    v = standing z t o object.terminal object.local

    last : ℕ
    last = declarers o run.history

    count : ℕ
    count = last - object.terminal

    wide : declarers o run.history ≤ object.terminal + z.slots
    wide = width z words first run inv o below

    -- no version given out is a turnover above the terminal
    difference_is : (version : ℕ) → object.terminal ≤ version → version ≤ declarers o run.history
        → difference ((first + version) % turnover) ((first + object.terminal) % turnover) ≡ version - object.terminal
    difference_is version low high =
        difference_above (first + version) (first + object.terminal) (omega arith) (omega (arith, wide, within.slots)) ∙ omega arith

    global : difference (object_at run.tables o).global.0 (object_at run.tables o).terminal.0 ≡ declarers o run.history - object.terminal
    global =
        rw (object.global_is, object.terminal_is) (difference_is (declarers o run.history) (omega (arith, object.low, object.high)) (omega arith))

    local : difference (object_at run.tables o).local.0 (object_at run.tables o).terminal.0 ≡ object.local - object.terminal
    local = rw (object.local_is, object.terminal_is) (difference_is object.local object.low object.high)

    from_terminal : (k : ℕ) → unwrapped_turn (first + suc (object.terminal + k)) (first + object.local) ≡ unwrapped_turn (suc k) (object.local - object.terminal)
    from_terminal k =
        let moved : first + suc (object.terminal + k) ≡ first + object.terminal + suc k = omega arith in
        let moved-local : first + object.local ≡ first + object.terminal + (object.local - object.terminal) = omega (arith, object.low) in
        rw (moved, moved-local) (turn_moved (first + object.terminal) (suc k) (object.local - object.terminal))

    -- the turn of a live declarer, told by versions counted without wrapping
    told : (given word : ℕ) (x : Transaction) → given < last → LiveFact o first v given word x
        → (release_step z t x.slot o).reply.number ≡ told_of (unwrapped_turn (first + suc given) (first + object.local))
    told given word x inside fact =
        let live : live_at t x.slot ≡ true = declared_lives z words first run inv o below x.slot fact.declared in
        let turn : turn_of z.slots (pair_at z t x.slot o) (object_at t o) ≡ unwrapped_turn (first + suc given) (first + object.local) =
        rw (fact.private, object.local_is)
        (turn_unwrapped z.slots (first + suc given) (first + object.local) (omega (arith, within.slots))
        (omega (arith, wide, object.low)) (omega (arith, wide, object.high, fact.ahead))) in
        release_told z t x.slot o (live_inside z t inv.sized x.slot live) live below fact.declared ∙ ap told_of turn
