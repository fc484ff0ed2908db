-- A scan of the history in which one live transaction is exchanged for what an event makes of it.
use Prim.Native.Nat.{ℕ, ◌+◌, ◌≤◌}
use mathlib.Core.Bool.{true, false}
use mathlib.Core.List.{◌∷◌, ◌++◌}
use mathlib.Core.Path.{◌≡◌, refl, sym, ap, ◌∙◌}
use native.Mathlib.Omega.{arith}
use native.Mathlib.Nat.{zero-add}
use Rattle.runs.specs.Histories.{History, Transaction, is_live, lives_in}
use Rattle.runs.specs.Companions.{count_live, declarers}
use Rattle.runs.proofs.Scan.{Standing, declares, word_after, replayed, LiveFact, Fact, Scan, scan_splits, scan_joins, replayed_append}
use Rattle.runs.proofs.Carried.{Keeping, Marked, scan_kept, scan_behind}

-- the scan before a transaction, what it finds at it, and the scan behind it
pub record Parts (o first : ℕ) (v : Standing) (word : ℕ) (before : History) (own : Transaction) (behind : History) : Type 0 where
  pub before_scan : Scan o first v 0 word before
  pub fact : Fact o first v (declarers o before) (replayed o v word before) own
  pub behind_scan : Scan o first v (declarers o before + declares o own) (word_after o v (replayed o v word before) own) behind

module _ (o first : ℕ) (v : Standing) (word : ℕ) (before : History) (own : Transaction) (behind : History) where
  pub scan_parts : Scan o first v 0 word (before ++ own ∷ behind) → Parts o first v word before own behind
  scan_parts scan =
      let both = scan_splits o first v 0 word before (own ∷ behind) scan in
      let rest = rw (zero-add (declarers o before)) at both.1 in
      record { before_scan = both.0; fact = rest.0; behind_scan = rest.1 }

  pub parts_scan : Parts o first v word before own behind → Scan o first v 0 word (before ++ own ∷ behind)
  parts_scan parts =
      scan_joins o first v 0 word before (own ∷ behind) parts.before_scan (rw (zero-add (declarers o before)) (parts.fact, parts.behind_scan))

-- what the event makes of the transaction, `next`, declares what it declared, and the scan before it is kept
module _ (o first s : ℕ) (v n : Standing) (word : ℕ) (before : History) (own next : Transaction) (behind : History)
    (alike : declares o next ≡ declares o own) (none_before : count_live s before ≡ 0) (none_behind : count_live s behind ≡ 0)
    (keeping : Keeping s v n 0 (declarers o before))
    (parts : Parts o first v word before own behind)
    (fact : Fact o first n (declarers o before) (replayed o v word before) next) where
  kept_before : Scan o first n 0 word before × (replayed o n word before ≡ replayed o v word before)
  kept_before = scan_kept o first s v n 0 (declarers o before) keeping 0 word before (omega arith) (omega arith) none_before parts.before_scan

  -- the scan of all, from the scan behind
  whole : (after : ℕ) → word_after o n (replayed o v word before) next ≡ after → (last : ℕ)
      → Scan o first n (declarers o before + declares o own) after behind × (replayed o n after behind ≡ last)
      → Scan o first n 0 word (before ++ next ∷ behind) × (replayed o n word (before ++ next ∷ behind) ≡ last)
  whole after leaves last rest =
      let front = kept_before in (
        parts_scan o first n word before next behind
            (record {
              before_scan = front.0;
              fact = rw front.1 fact;
              behind_scan = rw (front.1, alike, leaves) rest.0;
            }),
        replayed_append o first n word before (next ∷ behind)
            ∙ ap (λ (k : ℕ). replayed o n (word_after o n k next) behind) front.1
            ∙ ap (λ (k : ℕ). replayed o n k behind) leaves
            ∙ rest.1,
      )

  -- its word stays, and so do all behind it
  pub exchanged : word_after o n (replayed o v word before) next ≡ word_after o v (replayed o v word before) own
      → Keeping s v n (declarers o before + declares o own) (declarers o before + declares o own + declarers o behind)
      → Scan o first n 0 word (before ++ next ∷ behind) × (replayed o n word (before ++ next ∷ behind) ≡ replayed o v word (before ++ own ∷ behind))
  exchanged stays keeping-behind =
      let low : ℕ = declarers o before + declares o own in
      let rest =
      scan_kept o first s v n low (low + declarers o behind) keeping-behind
      low (word_after o v (replayed o v word before) own) behind (omega arith) (omega arith) none_behind parts.behind_scan in
      whole (word_after o v (replayed o v word before) own) stays (replayed o v word (before ++ own ∷ behind))
      (rest.0, rest.1 ∙ sym (replayed_append o first v word before (own ∷ behind)))

  -- its word is another, and nobody's calls stand behind it
  pub turned : v.terminal ≤ declarers o before + declares o own → n.terminal ≤ declarers o before + declares o own
      → (marked : (given earlier : ℕ) (x : Transaction) → declarers o before + declares o own ≤ given → lives_in s x ≡ false → is_live x.status ≡ true
      → LiveFact o first v given earlier x → Marked (v.pair x.slot) (n.pair x.slot))
      → Scan o first n 0 word (before ++ next ∷ behind)
      × (replayed o n word (before ++ next ∷ behind) ≡ word_after o n (replayed o v word before) next)
  turned ended ends marked =
      let low : ℕ = declarers o before + declares o own in
      let after : ℕ = word_after o n (replayed o v word before) next in
      whole after refl after
      (scan_behind o first s v n low after ended ends keeping.lets_go keeping.bare marked
      low (word_after o v (replayed o v word before) own) behind (omega arith) none_behind parts.behind_scan)
