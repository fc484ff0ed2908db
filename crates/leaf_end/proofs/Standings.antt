-- What the loop keeps that asks about the slot's objects, one by one.
use Prim.Native.Nat.{ℕ, ◌+◌, ◌*◌, ◌≤◌, ◌<◌}
use mathlib.Core.Bool.{Bool, true, false}
use mathlib.Core.List.{List}
use mathlib.Core.Path.{◌≡◌, refl, sym, ap, ◌∙◌}
use native.Mathlib.Omega.{arith}
use lib.ListN.{length, length-append}
use Rattle.counters.specs.Sizes.{Size}
use Rattle.objects.specs.declared.Pair.{Pair}
use Rattle.rules.specs.Tables.{State, object_at, pair_at}
use Rattle.rules.specs.Walks.{any_below, join_below}
use Rattle.rules.specs.Refusing.{misses}
use Rattle.rules.specs.Effects.{entry_of}
use Rattle.rules.proofs.Walking.{any_zero, any_next, join_zero, join_next}
use Rattle.leaf_end.specs.Serving.Standings.{standing_of_none, standing_with, standing_of}
use Rattle.leaf_end.specs.declared.Standing.{Standing}

-- the entries of a slot's first objects
abbrev pub entries_to : Size → State → ℕ → ℕ → List ℕ
entries_to z t s n = join_below n (λ o. entry_of o (pair_at z t s o))

pub entry_few : (o : ℕ) (pair : Pair) → length (entry_of o pair) ≤ 5
entry_few o pair = go pair.declared refl
  where
    go : (d : Bool) → pair.declared ≡ d → length (entry_of o pair) ≤ 5
    go true e = rw e (omega arith)
    go false e = rw e (omega arith)

-- how the slot stands by the objects that were asked about
pub record StandsSoFar (z : Size) (t : State) (s n : ℕ) (standing : Standing) : Type 0 where
  pub reached : n ≤ z.objects
  pub few : standing.bytes ≤ 5 * n
  pub shows :
      standing
      ≡ record {
        doomed = any_below n (λ o. (pair_at z t s o).spoiled);
        unmet = any_below n (λ o. misses (pair_at z t s o) (object_at t o));
        bytes = length (entries_to z t s n);
      }

pub stands_first : (z : Size) (t : State) (s : ℕ) (standing : Standing) → standing ≡ standing_of_none → StandsSoFar z t s 0 standing
stands_first z t s standing e =
    record {
      reached = omega arith;
      few = omega (arith, ap (λ (x : Standing). x.bytes) e);
      shows =
          e
          ∙ sym
          (λ i.
          record {
            doomed = any_zero (λ o. (pair_at z t s o).spoiled) i;
            unmet = any_zero (λ o. misses (pair_at z t s o) (object_at t o)) i;
            bytes = length (join_zero (λ o. entry_of o (pair_at z t s o)) i);
          });
    }

-- one object more
pub stands_on : (z : Size) (t : State) (s n : ℕ) (standing standing' : Standing) → n < z.objects → standing' ≡ standing_with n (pair_at z t s n) (object_at t n) standing
    → StandsSoFar z t s n standing → StandsSoFar z t s (n + 1) standing'
stands_on z t s n standing standing' more e stands =
    let entry : List ℕ = entry_of n (pair_at z t s n) in
    let spoiled : ℕ → Bool = λ o. (pair_at z t s o).spoiled in
    let missing : ℕ → Bool = λ o. misses (pair_at z t s o) (object_at t o) in
    let long : length (entries_to z t s n) + length entry ≡ length (entries_to z t s (n + 1)) =
    sym (length-append (entries_to z t s n) entry) ∙ ap length (sym (join_next (λ o. entry_of o (pair_at z t s o)) n)) in
    record {
      reached = omega arith;
      few = omega (arith, ap (λ (x : Standing). x.bytes) e, stands.few, entry_few n (pair_at z t s n));
      shows =
          e
          ∙ ap (standing_with n (pair_at z t s n) (object_at t n)) stands.shows
          ∙ (λ i. record { doomed = sym (any_next spoiled n) i; unmet = sym (any_next missing n) i; bytes = long i });
    }

-- behind the last object
pub stands_all : (z : Size) (t : State) (s n : ℕ) (standing : Standing) → z.objects ≤ n → StandsSoFar z t s n standing
    → (standing ≡ standing_of z t s) × (standing.bytes ≤ 5 * z.objects)
stands_all z t s n standing all stands =
    let every : n ≡ z.objects = omega (arith, stands.reached) in (
      stands.shows
          ∙ (λ i.
          record {
            doomed = any_below (every i) (λ o. (pair_at z t s o).spoiled);
            unmet = any_below (every i) (λ o. misses (pair_at z t s o) (object_at t o));
            bytes = length (entries_to z t s (every i));
          }),
      omega (arith, stands.few),
    )
