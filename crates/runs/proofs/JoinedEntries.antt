-- The entries of the declared pairs below a bound, and their bytes: lengths, that they read back and rise, and what they list.
use Prim.Native.Nat.{ℕ, zero, suc, ◌+◌, ◌*◌, ◌<◌, ◌≤◌}
use mathlib.Core.Bool.{Bool, true, false, ◌&&◌}
use mathlib.Core.List.{List, [], ◌∷◌, ◌++◌, append_assoc}
use mathlib.Core.Logic.{◌⊎◌, inl, inr, ⊎_elim, ◌↔◌}
use mathlib.Core.Path.{◌≡◌, refl, sym, ap, ◌∙◌}
use native.Mathlib.Numerals.{add-one}
use native.Mathlib.Omega.{arith}
use lib.Dec.{leb, ltb, eqb}
use lib.ListN.{length, length-append}
use borrow.Author.Tests.{leb-true, le-leb, lt-ltb, eqb-true, eqb-false}
use Rattle.answers.specs.Order.{pick}
use Rattle.counters.specs.Versions.{turnover}
use Rattle.record_layout.specs.Bytes.{word_bytes}
use Rattle.record_layout.specs.Entries.{Entry, entries_of, rising_from}
use Rattle.record_layout.proofs.LittleEndian.{word_back}
use Rattle.objects.specs.declared.Pair.{Pair}
use Rattle.record_order.specs.CommonObject.{Lists}
use Rattle.rules.specs.Walks.{join_below}
use Rattle.rules.specs.Effects.{entry_of}
use Rattle.runs.specs.Companions.{declared_entry}
use Rattle.answers.proofs.Tests.{both_true}
use Rattle.rules.proofs.Picking.{pick_when}

-- a list with another behind it lists what either lists
lists_joined : (es fs : List Entry) (o v : ℕ) → Lists (es ++ fs) o v ↔ (Lists es o v ⊎ Lists fs o v)
lists_joined [] fs o v = (inr, ⊎_elim (λ none. absurd none) (λ listed. listed))
lists_joined (e ∷ es) fs o v = (
  ⊎_elim (λ here. inl (inl here)) (λ later. ⊎_elim (λ listed. inl (inr listed)) inr ((lists_joined es fs o v).0 later)),
  ⊎_elim (⊎_elim inl (λ listed. inr ((lists_joined es fs o v).1 (inl listed)))) (λ behind. inr ((lists_joined es fs o v).1 (inr behind))),
)

-- a list that rises from one object rises from any below it
rising_lower : (objects least lower : ℕ) (es : List Entry) → lower ≤ least → rising_from objects least es ≡ true → rising_from objects lower es ≡ true
rising_lower objects least lower [] below rises = refl
rising_lower objects least lower (e ∷ es) below rises =
    let parts = both_true (leb least e.object && ltb e.object objects) (rising_from objects (e.object + 1) es) rises in
    let first = both_true (leb least e.object) (ltb e.object objects) parts.0 in
    let low : least ≤ e.object = leb-true least e.object first.0 in
    rw (le-leb lower e.object (omega arith), first.1, parts.1)

-- one pair's part of the record: its bytes, and the entry that they hold
module _ (o : ℕ) (pair : Pair) where
  abbrev entry : Entry
  entry = record { object = o; version = pair.private.0 }

  part_length : length (entry_of o pair) ≡ 5 * length (declared_entry o pair)
  part_length = by pair.declared
    where
      by : (d : Bool) → length (pick d (o ∷ word_bytes pair.private.0) []) ≡ 5 * length (pick d (entry ∷ []) [])
      by true = refl
      by false = refl

  part_short : length (declared_entry o pair) ≤ 1
  part_short = pick_when (λ (es : List Entry). length es ≤ 1) pair.declared (λ e. omega arith) (λ e. omega arith)

  part_read : pair.private.0 < turnover → (rest : List ℕ) → entries_of (entry_of o pair ++ rest) ≡ declared_entry o pair ++ entries_of rest
  part_read fits rest = by pair.declared
    where
      by : (d : Bool) → entries_of (pick d (o ∷ word_bytes pair.private.0) [] ++ rest) ≡ pick d (entry ∷ []) [] ++ entries_of rest
      by true = ap (λ (v : ℕ). record { object = o; version = v } ∷ entries_of rest) (word_back pair.private.0 rest fits)
      by false = refl

  part_rises : (objects : ℕ) (rest : List Entry) → o < objects → rising_from objects (o + 1) rest ≡ true
      → rising_from objects o (declared_entry o pair ++ rest) ≡ true
  part_rises objects rest below rises = by pair.declared
    where
      by : (d : Bool) → rising_from objects o (pick d (entry ∷ []) [] ++ rest) ≡ true
      by true = rw (le-leb o o (omega arith), lt-ltb o objects below, rises)
      by false = rising_lower objects (o + 1) o rest (omega arith) rises

  part_lists : (q v : ℕ) → Lists (declared_entry o pair) q v ↔ ((q ≡ o) × (pair.declared ≡ true) × (pair.private.0 ≡ v))
  part_lists q v = by pair.declared refl
    where
      by : (d : Bool) → pair.declared ≡ d → Lists (pick d (entry ∷ []) []) q v ↔ ((q ≡ o) × (pair.declared ≡ true) × (pair.private.0 ≡ v))
      by true e = (⊎_elim (λ here. (sym here.0, e, here.1)) (λ none. absurd none), λ facts. inl (sym facts.0, facts.2))
      by false e = (λ none. absurd none, λ facts. let clash : ◌≡◌ {A = ℕ} 0 1 = cc in absurd (omega arith))

-- the parts of all pairs below a bound
module _ (pairs : ℕ → Pair) where
  abbrev pub bytes_below : ℕ → List ℕ
  bytes_below k = join_below k (λ o. entry_of o (pairs o))

  abbrev pub entries_below : ℕ → List Entry
  entries_below k = join_below k (λ o. declared_entry o (pairs o))

  pub below_length : (k : ℕ) → length (bytes_below k) ≡ 5 * length (entries_below k)
  unfolding join_below
  below_length zero = refl
  below_length (suc k) =
      rw (length-append (bytes_below k) (entry_of k (pairs k)), length-append (entries_below k) (declared_entry k (pairs k)))
      (omega (arith, below_length k, part_length k (pairs k)))

  pub below_short : (k : ℕ) → length (entries_below k) ≤ k
  unfolding join_below
  below_short zero = omega arith
  below_short (suc k) =
      rw (length-append (entries_below k) (declared_entry k (pairs k))) (omega (arith, below_short k, part_short k (pairs k)))

  pub below_read : (k : ℕ) (rest : List ℕ) → ((o : ℕ) → o < k → (pairs o).private.0 < turnover)
      → entries_of (bytes_below k ++ rest) ≡ entries_below k ++ entries_of rest
  unfolding join_below
  below_read zero rest fits = refl
  below_read (suc k) rest fits =
      ap entries_of (append_assoc (bytes_below k) (entry_of k (pairs k)) rest)
      ∙ below_read k (entry_of k (pairs k) ++ rest) (λ o below. fits o (omega arith))
      ∙ ap (λ (es : List Entry). entries_below k ++ es) (part_read k (pairs k) (fits k (omega arith)) rest)
      ∙ sym (append_assoc (entries_below k) (declared_entry k (pairs k)) (entries_of rest))

  pub below_rises : (objects k : ℕ) (rest : List Entry) → k ≤ objects → rising_from objects k rest ≡ true → rising_from objects 0 (entries_below k ++ rest) ≡ true
  unfolding join_below
  below_rises objects zero rest inside rises = rises
  below_rises objects (suc k) rest inside rises =
      rw (append_assoc (entries_below k) (declared_entry k (pairs k)) rest)
      (below_rises objects k (declared_entry k (pairs k) ++ rest) (omega arith)
      (part_rises k (pairs k) objects rest (omega arith) (rw (add-one k) rises)))

  -- an object below a bound is declared, with this private version
  abbrev pub DeclaredBelow : ℕ → ℕ → ℕ → Type 0
  DeclaredBelow k q v = (q < k) × ((pairs q).declared ≡ true) × ((pairs q).private.0 ≡ v)

  -- exactly such objects are listed
  pub below_lists : (k q v : ℕ) → Lists (entries_below k) q v ↔ DeclaredBelow k q v
  unfolding join_below
  below_lists zero q v = (λ none. absurd none, λ facts. absurd (omega arith))
  below_lists (suc k) q v = (
    λ listed.
        ⊎_elim
        (λ before. let facts = (below_lists k q v).0 before in (omega arith, facts.1, facts.2))
        last ((lists_joined (entries_below k) (declared_entry k (pairs k)) q v).0 listed),
    λ facts. (lists_joined (entries_below k) (declared_entry k (pairs k)) q v).1 (by (eqb q k) refl facts (below_lists k q v).1),
  )
    where
      last : Lists (declared_entry k (pairs k)) q v → DeclaredBelow (suc k) q v
      last listed =
          let facts = (part_lists k (pairs k) q v).0 listed in
          rw facts.0 (omega arith, facts.1, facts.2)

      by : (is_last : Bool) → eqb q k ≡ is_last → DeclaredBelow (suc k) q v
          → (DeclaredBelow k q v → Lists (entries_below k) q v)
          → Lists (entries_below k) q v ⊎ Lists (declared_entry k (pairs k)) q v
      by true e facts before =
          let same : q ≡ k = eqb-true q k e in
          inr ((part_lists k (pairs k) q v).1 (same, rw same at facts.1, rw same at facts.2))
      by false e facts before = inl (before (omega (arith, eqb-false q k e), facts.1, facts.2))
