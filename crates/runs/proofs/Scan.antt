-- The history as one object sees it: one scan of all transactions in start order, with the versions given out so far and the word replayed
-- so far. What the scan finds at each transaction carries the theorems about runs.
use Prim.Native.Nat.{ℕ, suc, ◌+◌, ◌%◌, ◌<◌, ◌≤◌}
use mathlib.Core.Bool.{Bool, true, false, not, ◌&&◌, ◌||◌}
use mathlib.Core.List.{[], ◌∷◌, ◌++◌}
use mathlib.Core.Path.{◌≡◌, refl}
use native.Mathlib.Omega.{arith}
use native.Mathlib.Nat.{add-zero, add_assoc}
use Rattle.answers.specs.Order.{pick}
use Rattle.counters.specs.Versions.{turnover}
use Rattle.record_layout.specs.Declarations.{names}
use Rattle.objects.specs.Places.{no_pair}
use Rattle.objects.specs.declared.Pair.{Pair}
use Rattle.runs.specs.Histories.{History, Transaction, is_live, is_committed, lives_in}
use Rattle.runs.specs.Companions.{count_live, declarers}
use Rattle.runs.proofs.OneObject.{calls_on, replay, Agree}

-- an object's pair of each slot, and how many of its versions have ended and have been let go, counted from the first without wrapping
pub record Standing : Type 0 where
  pub pair : ℕ → Pair
  pub terminal : ℕ
  pub local : ℕ

-- 1 where a transaction declares the object
abbrev pub declares : ℕ → Transaction → ℕ
declares o x = pick (names x.declarations o) 1 0

-- a transaction whose calls stand in the object's word: committed, or live and not spoiled
abbrev pub stands : Standing → Transaction → Bool
stands v x = is_committed x.status || (is_live x.status && not (v.pair x.slot).spoiled)

abbrev pub word_after : ℕ → Standing → ℕ → Transaction → ℕ
word_after o v word x = pick (stands v x) (replay (calls_on o x.calls) word) word

abbrev pub replayed : ℕ → Standing → ℕ → History → ℕ
replayed o v word [] = word
replayed o v word (x ∷ xs) = replayed o v (word_after o v word x) xs

-- a live transaction that declares the object, with `given` versions given out before it and this word replayed before it
pub record LiveFact (o first : ℕ) (v : Standing) (given word : ℕ) (x : Transaction) : Type 0 where
  pub declared : (v.pair x.slot).declared ≡ true
  pub private : (v.pair x.slot).private.0 ≡ (first + suc given) % turnover
  pub ahead : v.terminal ≤ given
  pub turned : (v.pair x.slot).called ≡ true → given ≤ v.local
  pub silent : (v.pair x.slot).called ≡ false → calls_on o x.calls ≡ []
  pub clean : (v.pair x.slot).called ≡ false → (v.pair x.slot).spoiled ≡ false
  pub agrees : (v.pair x.slot).spoiled ≡ false → Agree (calls_on o x.calls) word
  pub saved : (v.pair x.slot).spoiled ≡ false → (v.pair x.slot).called ≡ true → (v.pair x.slot).saved ≡ word

-- any transaction
pub record Fact (o first : ℕ) (v : Standing) (given word : ℕ) (x : Transaction) : Type 0 where
  pub unlisted : names x.declarations o ≡ false → calls_on o x.calls ≡ []
  pub past : is_live x.status ≡ false → names x.declarations o ≡ true → given < v.terminal
  pub agrees : is_committed x.status ≡ true → Agree (calls_on o x.calls) word
  pub none : is_live x.status ≡ true → names x.declarations o ≡ false → v.pair x.slot ≡ no_pair
  pub live : is_live x.status ≡ true → names x.declarations o ≡ true → LiveFact o first v given word x

abbrev pub Scan : ℕ → ℕ → Standing → ℕ → ℕ → History → Type 0
Scan o first v given word [] = Unit {0}
Scan o first v given word (x ∷ xs) = Fact o first v given word x × Scan o first v (given + declares o x) (word_after o v word x) xs

-- a scan goes on behind a part of the history
pub declarers_append : (o : ℕ) (a b : History) → declarers o (a ++ b) ≡ declarers o a + declarers o b
declarers_append o [] b = omega arith
declarers_append o (x ∷ a) b = omega (arith, declarers_append o a b)

module _ (o first : ℕ) (v : Standing) where
  pub replayed_append : (word : ℕ) (a b : History) → replayed o v word (a ++ b) ≡ replayed o v (replayed o v word a) b
  replayed_append word [] b = refl
  replayed_append word (x ∷ a) b = replayed_append (word_after o v word x) a b

  pub scan_splits : (given word : ℕ) (a b : History) → Scan o first v given word (a ++ b)
      → Scan o first v given word a × Scan o first v (given + declarers o a) (replayed o v word a) b
  scan_splits given word [] b scan = (tt, rw (add-zero given) scan)
  scan_splits given word (x ∷ a) b scan =
      let parts = scan_splits (given + declares o x) (word_after o v word x) a b scan.1 in
      ((scan.0, parts.0), rw (add_assoc given (declares o x) (declarers o a)) at parts.1)

  pub scan_joins : (given word : ℕ) (a b : History) → Scan o first v given word a
      → Scan o first v (given + declarers o a) (replayed o v word a) b → Scan o first v given word (a ++ b)
  scan_joins given word [] b first_part scan = rw (add-zero given) at scan
  scan_joins given word (x ∷ a) b first_part scan =
      (first_part.0, scan_joins (given + declares o x) (word_after o v word x) a b first_part.1 (rw (add_assoc given (declares o x) (declarers o a)) scan))

-- what holds of every transaction, one by one, carries a scan from one standing to another; R relates the words replayed so far
module _ (o first s : ℕ) (v n : Standing) (R : ℕ → ℕ → Type 0) (low high : ℕ)
    (step : (given word other : ℕ) (x : Transaction) → low ≤ given → given + declares o x ≤ high → lives_in s x ≡ false → R word other
    → Fact o first v given word x → Fact o first n given other x × R (word_after o v word x) (word_after o n other x)) where
  pub carry : (given word other : ℕ) (xs : History) → low ≤ given → given + declarers o xs ≤ high → count_live s xs ≡ 0 → R word other
      → Scan o first v given word xs → Scan o first n given other xs × R (replayed o v word xs) (replayed o n other xs)
  carry given word other [] above below none related scan = (tt, related)
  carry given word other (x ∷ xs) above below none related scan =
      let here = step given word other x above (omega arith) (idle (lives_in s x) refl) related scan.0 in
      let rest = carry (given + declares o x) (word_after o v word x) (word_after o n other x) xs (omega arith) (omega arith) (omega arith) here.1 scan.1 in
      ((here.0, rest.0), rest.1)
    where
      idle : (b : Bool) → lives_in s x ≡ b → lives_in s x ≡ false
      idle false e = e
      idle true e = let one : 1 + count_live s xs ≡ 0 = rw e at none in absurd (omega arith)
