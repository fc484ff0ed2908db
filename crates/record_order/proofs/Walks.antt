-- R35 over bytes in steps of five: what each turn and each end of the two walks says of what they find.
use Prim.Native.Nat.{ℕ, ◌+◌, ◌-◌, ◌≤◌, ◌<◌}
use mathlib.Core.List.{List}
use mathlib.Core.Path.{◌≡◌, ap, ◌∙◌}
use borrow.Author.Tests.{eq-eqb, ne_eqb}
use lib.ListN.{length, drop}
use Rattle.std.specs.Prelude.{Option, Some, None}
use Rattle.counters.specs.Comparing.{compared}
use Rattle.counters.specs.declared.Comparison.{Comparison}
use Rattle.record_layout.specs.Bytes.{byte_at, word_of}
use Rattle.record_layout.specs.Entries.{Entry, entries_of}
use Rattle.record_layout.proofs.EntryWalk.{entries_next, entries_end}
use Rattle.record_order.specs.CameFirst.{meet, meeting_of}

module _ (a b : List ℕ) where
  -- what the walk of A's list finds from a place on
  abbrev pub outer_from : ℕ → Option Comparison
  outer_from at = meeting_of (entries_of (drop at a)) (entries_of b)

  -- what a walk of entries of B's finds for the entry of A's list at a place
  abbrev inner_over : ℕ → List Entry → Option Comparison
  inner_over at fs = meet (record { object = byte_at a at; version = word_of (drop (at + 1) a) }) fs (outer_from (at + 5))

  -- what the walk of B's list finds from its place on
  abbrev pub inner_from : ℕ → ℕ → Option Comparison
  inner_from at_a at_b = inner_over at_a (entries_of (drop at_b b))

  -- a turn of the outer walk is an inner walk
  pub outer_turns : (at_a : ℕ) → 4 < length a - at_a → outer_from at_a ≡ inner_from at_a 0
  outer_turns at_a more = ap (λ es. meeting_of es (entries_of b)) (entries_next a at_a more)

  -- and its end finds nothing
  pub outer_ends : (at_a : ℕ) → length a - at_a ≤ 4 → outer_from at_a ≡ None
  outer_ends at_a none = ap (λ es. meeting_of es (entries_of b)) (entries_end a at_a none)

  -- the inner walk at a place of each list
  module _ (at_a at_b : ℕ) where
    -- a hit answers
    pub inner_hits : 4 < length b - at_b → byte_at a at_a ≡ byte_at b at_b
        → inner_from at_a at_b ≡ Some (compared (word_of (drop (at_a + 1) a)) (word_of (drop (at_b + 1) b)))
    inner_hits more same = ap (inner_over at_a) (entries_next b at_b more) ∙ simp (eq-eqb _ _ same)

    -- a miss goes on
    pub inner_misses : 4 < length b - at_b → (byte_at a at_a ≡ byte_at b at_b → ⊥) → inner_from at_a at_b ≡ inner_from at_a (at_b + 5)
    inner_misses more other = ap (inner_over at_a) (entries_next b at_b more) ∙ simp (ne_eqb _ _ other)

    -- the end goes on with the outer walk
    pub inner_ends : length b - at_b ≤ 4 → inner_from at_a at_b ≡ outer_from (at_a + 5)
    inner_ends none = ap (inner_over at_a) (entries_end b at_b none)
