-- The records that ended transactions have written: each lists what its start listed, with the versions given out to it.
use Prim.Native.Nat.{ℕ, ◌+◌, ◌%◌}
use mathlib.Core.Bool.{true, false}
use mathlib.Core.List.{List, [], ◌∷◌, ◌++◌}
use mathlib.Core.Path.{◌≡◌, sym, subst, ◌∙◌}
use native.Mathlib.Omega.{arith}
use Rattle.counters.specs.Sizes.{Size}
use Rattle.counters.specs.Versions.{turnover}
use Rattle.record_layout.specs.Declarations.{Declaration}
use Rattle.record_layout.specs.Entries.{entries_of}
use Rattle.record_layout.specs.Reading.{listing}
use Rattle.record_order.specs.CommonObject.{Lists}
use Rattle.runs.specs.Histories.{History, Transaction, is_live}
use Rattle.runs.specs.Companions.{declarers}
use Rattle.rules.proofs.Picking.{clash}
use Rattle.runs.proofs.Scan.{declares}
use Rattle.runs.proofs.RecordOrder.{Recorded}

-- of every ended transaction, where `version` is what the next declarer of each object gets, counted without wrapping
abbrev pub Records : Size → (ℕ → ℕ) → History → Type 0
Records z version [] = Unit {0}
Records z version (x ∷ xs) = (is_live x.status ≡ false → Recorded z x.written x.declarations version) × Records z (λ q. version q + declares q x) xs

recorded_alike : (z : Size) (written : List ℕ) (declarations : List Declaration) (version other : ℕ → ℕ) → ((q : ℕ) → other q ≡ version q)
    → Recorded z written declarations version → Recorded z written declarations other
recorded_alike z written declarations version other same r =
    record {
      is_end_lem = r.is_end_lem;
      listed = λ o named. subst (λ (k : ℕ). Lists (entries_of (listing z written)) o (k % turnover)) (sym (same o)) (r.listed o named);
      only = r.only;
    }

module _ (z : Size) where
  -- the record of one transaction of the history
  pub records_at : (version : ℕ → ℕ) (before : History) (x : Transaction) (behind : History) → Records z version (before ++ x ∷ behind)
      → (other : ℕ → ℕ) → ((q : ℕ) → other q ≡ version q + declarers q before) → is_live x.status ≡ false → Recorded z x.written x.declarations other
  records_at version [] x behind records other same ended =
      recorded_alike z x.written x.declarations version other (λ q. omega (arith, same q)) (records.0 ended)
  records_at version (y ∷ before) x behind records other same ended =
      records_at (λ q. version q + declares q y) before x behind records.1 other (λ q. omega (arith, same q)) ended

  -- a transaction exchanged for one that declares the same
  pub records_exchanged : (version : ℕ → ℕ) (before : History) (own next : Transaction) (behind : History) → Records z version (before ++ own ∷ behind)
      → ((q : ℕ) → declares q next ≡ declares q own)
      → ((other : ℕ → ℕ) → ((q : ℕ) → other q ≡ version q + declarers q before) → is_live next.status ≡ false → Recorded z next.written next.declarations other)
      → Records z version (before ++ next ∷ behind)
  records_exchanged version [] own next behind records alike recorded = (
    recorded version (λ q. omega arith),
    subst (λ (versions : ℕ → ℕ). Records z versions behind) (λ i q. version q + sym (alike q) i) records.1,
  )
  records_exchanged version (y ∷ before) own next behind records alike recorded = (
    records.0,
    records_exchanged (λ q. version q + declares q y) before own next behind records.1 alike
        (λ other same. recorded other (λ q. omega (arith, same q))),
  )

  -- a live transaction more
  pub records_begun : (version : ℕ → ℕ) (history : History) (x : Transaction) → is_live x.status ≡ true → Records z version history
      → Records z version (history ++ x ∷ [])
  records_begun version [] x live records = (λ ended. absurd (clash (sym live ∙ ended)), tt)
  records_begun version (y ∷ history) x live records = (records.0, records_begun (λ q. version q + declares q y) history x live records.1)
