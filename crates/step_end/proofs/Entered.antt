-- The entries of a record, one behind the other in the buffer.
use Prim.Native.Nat.{ℕ, zero, suc, ◌+◌, ◌*◌, ◌≤◌, ◌<◌}
use mathlib.Core.Bool.{Bool, true, false}
use mathlib.Core.List.{List, [], ◌++◌}
use mathlib.Core.Path.{◌≡◌, refl, sym, ap, ◌∙◌}
use native.Mathlib.Omega.{arith}
use lib.Dec.{leb}
use lib.ListN.{length, take, drop, length-append, length-drop, take-append-drop}
use borrow.Author.Tests.{leb-true, leb-false}
use Rattle.counters.specs.Sizes.{Size}
use Rattle.record_front.proofs.Splicing.{put_behind}
use Rattle.objects.specs.declared.Pair.{Pair}
use Rattle.rules.specs.Tables.{State, pair_at}
use Rattle.rules.specs.Effects.{entry_of}
use Rattle.rules.proofs.Walking.{join_zero, join_next, join_suc}
use Rattle.leaf_end.proofs.Standings.{entries_to, entry_few}

module _ (o : ℕ) (pair : Pair) (l : List ℕ) (at : ℕ) where
  -- a pair that is not declared has no entry, and the buffer stays
  pub no_entry : pair.declared ≡ false
      → (at ≡ at + length (entry_of o pair)) × (l ≡ take at l ++ (entry_of o pair ++ drop (at + length (entry_of o pair)) l))
  no_entry none =
      let same : at + 0 ≡ at = omega arith in
      rw none (sym same, sym (ap (λ (n : ℕ). take at l ++ drop n l) same ∙ take-append-drop at l))

  -- five bytes fit
  pub entry_room : pair.declared ≡ true → at + length (entry_of o pair) ≤ length l → at + 5 ≤ length l
  entry_room declared room = rw declared at room

-- what the walk keeps: the entries of the objects passed stand at the front
pub record Entering (z : Size) (t : State) (s n at : ℕ) (l₀ l : List ℕ) : Type 0 where
  pub reached : n ≤ z.objects
  pub few : at ≤ 5 * n
  pub at_is : at ≡ length (entries_to z t s n)
  pub room : length (entries_to z t s z.objects) ≤ length l₀
  pub entered : l ≡ entries_to z t s n ++ drop at l₀

pub enters_first : (z : Size) (t : State) (s : ℕ) (l : List ℕ) → length (entries_to z t s z.objects) ≤ length l → Entering z t s 0 0 l l
enters_first z t s l room =
    let none : entries_to z t s 0 ≡ [] = join_zero (λ o. entry_of o (pair_at z t s o)) in
    record { reached = omega arith; few = omega arith; at_is = ap length (sym none); room = room; entered = ap (λ (x : List ℕ). x ++ l) (sym none) }

-- the first entries are no longer than all of them
entries_within : (z : Size) (t : State) (s n m : ℕ) → n ≤ m → length (entries_to z t s n) ≤ length (entries_to z t s m)
entries_within z t s n zero inside =
    let none : n ≡ 0 = omega arith in
    rw none (omega arith)
entries_within z t s n (suc m) inside = go (leb n m) refl (entries_within z t s n m)
  where
    next : length (entries_to z t s (suc m)) ≡ length (entries_to z t s m) + length (entry_of m (pair_at z t s m))
    next = ap length (join_suc (λ o. entry_of o (pair_at z t s o)) m) ∙ length-append (entries_to z t s m) (entry_of m (pair_at z t s m))

    go : (b : Bool) → leb n m ≡ b → (n ≤ m → length (entries_to z t s n) ≤ length (entries_to z t s m))
        → length (entries_to z t s n) ≤ length (entries_to z t s (suc m))
    go true e earlier = omega (arith, earlier (leb-true n m e), next)
    go false e earlier =
        let last : n ≡ suc m = omega (arith, leb-false n m e) in
        rw last (omega arith)

-- the buffer stays as long as it is
pub entered_long : (z : Size) (t : State) (s n at : ℕ) (l₀ l : List ℕ) → Entering z t s n at l₀ l → length l ≡ length l₀
entered_long z t s n at l₀ l entering =
    ap length entering.entered
    ∙ length-append (entries_to z t s n) (drop at l₀)
    ∙ omega (arith, entering.at_is, entries_within z t s n z.objects entering.reached, entering.room, length-drop at l₀)

module _ (z : Size) (t : State) (s n at : ℕ) (l₀ l : List ℕ) (more : n < z.objects) (entering : Entering z t s n at l₀ l) where
  entry : List ℕ
  entry = entry_of n (pair_at z t s n)

  next_long : length (entries_to z t s (n + 1)) ≡ at + length entry
  unfolding entry
  next_long =
      ap length (join_next (λ o. entry_of o (pair_at z t s o)) n)
      ∙ length-append (entries_to z t s n) entry
      ∙ ap (λ (k : ℕ). k + length entry) (sym entering.at_is)

  -- there is room for the next
  enters_inside : at + length entry ≤ length l₀
  enters_inside = omega (arith, next_long, entries_within z t s (n + 1) z.objects (omega arith), entering.room)

  pub next_inside : (pair : Pair) → pair ≡ pair_at z t s n → at + length (entry_of n pair) ≤ length l
  unfolding entry
  next_inside pair is_pair =
      rw is_pair (omega (arith, enters_inside, entered_long z t s n at l₀ l entering))

  pub enters_on : (pair : Pair) (at' : ℕ) (l' : List ℕ) → pair ≡ pair_at z t s n → at' ≡ at + length (entry_of n pair)
      → l' ≡ take at l ++ (entry_of n pair ++ drop (at + length (entry_of n pair)) l) → Entering z t s (n + 1) at' l₀ l'
  unfolding entry
  enters_on pair at' l' is_pair is_at is-list =
      let there : at' ≡ at + length entry = is_at ∙ ap (λ (p : Pair). at + length (entry_of n p)) is_pair in
      record {
        reached = omega arith;
        few = omega (arith, there, entering.few, entry_few n (pair_at z t s n));
        at_is = there ∙ sym next_long;
        room = entering.room;
        entered =
            is-list
            ∙ ap (λ (p : Pair). take at l ++ (entry_of n p ++ drop (at + length (entry_of n p)) l)) is_pair
            ∙ ap (λ (x : List ℕ). take at x ++ (entry ++ drop (at + length entry) x)) entering.entered
            ∙ put_behind (entries_to z t s n) entry l₀ at (sym entering.at_is) enters_inside
            ∙ (λ i. sym (join_next (λ o. entry_of o (pair_at z t s o)) n) i ++ drop (sym there i) l₀);
      }

-- behind the last object
pub entered_all : (z : Size) (t : State) (s n at : ℕ) (l₀ l : List ℕ) → z.objects ≤ n → Entering z t s n at l₀ l
    → l ≡ entries_to z t s z.objects ++ drop (length (entries_to z t s z.objects)) l₀
entered_all z t s n at l₀ l all entering =
    let every : n ≡ z.objects = omega (arith, entering.reached) in
    entering.entered ∙ ap (λ (k : ℕ). entries_to z t s n ++ drop k l₀) entering.at_is
    ∙ ap (λ (m : ℕ). entries_to z t s m ++ drop (length (entries_to z t s m)) l₀) every
