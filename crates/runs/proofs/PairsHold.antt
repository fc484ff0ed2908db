-- The pairs of the tables: those of a slot that is not live are zero, whoever is spoiled has called, and whoever has called has declared.
use Prim.Native.Nat.{ℕ, ◌<◌}
use mathlib.Core.Bool.{Bool, true, false}
use mathlib.Core.List.{List}
use mathlib.Core.Path.{◌≡◌, refl, sym, ◌∙◌}
use lib.ListN.{get_or}
use Rattle.counters.specs.Sizes.{Size}
use Rattle.record_layout.specs.Declarations.{names}
use Rattle.objects.specs.Places.{no_pair}
use Rattle.objects.specs.declared.Pair.{Pair}
use Rattle.rules.specs.Tables.{live_at, pair_at}
use Rattle.runs.specs.Histories.{Transaction, is_live}
use Rattle.runs.specs.Companions.{PairsRight, declarers}
use Rattle.runs.specs.Runs.{Run}
use Rattle.rules.proofs.Picking.{clash}
use Rattle.runs.proofs.Scan.{Standing, replayed, LiveFact, Fact}
use Rattle.runs.proofs.Found.{Found, find}
use Rattle.runs.proofs.Exchanged.{scan_parts}
use Rattle.runs.proofs.Invariant.{Invariant, standing}

module _ (z : Size) (words : List ℕ) (first : ℕ) (run : Run) (inv : Invariant z words first run) where
  -- an object as the scan of the run sees it
  abbrev pub standing_of_lem : (o : ℕ) → o < z.objects → Standing
  standing_of_lem o below = standing z run.tables o (inv.objects o below).terminal (inv.objects o below).local

  -- a live slot has its transaction
  pub found_of : (s : ℕ) → live_at run.tables s ≡ true → Found s run.history
  found_of s live = find s run.history (rw live at (inv.live s))

  -- and the scan of each object has come to it
  pub fact_of : (o : ℕ) (below : o < z.objects) (s : ℕ) (f : Found s run.history)
      → Fact o first (standing_of_lem o below) (declarers o f.before) (replayed o (standing_of_lem o below) (get_or words o 0) f.before) f.own
  fact_of o below s f =
      (scan_parts o first (standing_of_lem o below) (get_or words o 0) f.before f.own f.behind (rw f.all at (inv.objects o below).scan)).fact

-- what holds of one pair
record Right (p : Pair) : Type 0 where
  spoiled : p.spoiled ≡ true → p.called ≡ true
  called : p.called ≡ true → p.declared ≡ true

none_right : (p : Pair) → p ≡ no_pair → Right p
none_right p none = rw none (record { spoiled = λ e. e; called = λ e. e })

live_right : (o first : ℕ) (v : Standing) (given word : ℕ) (x : Transaction) → LiveFact o first v given word x → Right (v.pair x.slot)
live_right o first v given word x fact =
    record { spoiled = λ spoiled. by spoiled (v.pair x.slot).called refl; called = λ called. fact.declared }
  where
    by : (v.pair x.slot).spoiled ≡ true → (called : Bool) → (v.pair x.slot).called ≡ called → (v.pair x.slot).called ≡ true
    by spoiled true e = e
    by spoiled false e = absurd (clash (sym spoiled ∙ fact.clean e))

fact_right : (o first : ℕ) (v : Standing) (given word : ℕ) (x : Transaction) → is_live x.status ≡ true → Fact o first v given word x
    → Right (v.pair x.slot)
fact_right o first v given word x live fact = by (names x.declarations o) refl
  where
    by : (named : Bool) → names x.declarations o ≡ named → Right (v.pair x.slot)
    by false e = none_right (v.pair x.slot) (fact.none live e)
    by true e = live_right o first v given word x (fact.live live e)

pub pairs_right : (z : Size) (words : List ℕ) (first : ℕ) (run : Run) → Invariant z words first run
    → (s o : ℕ) → s < z.slots → o < z.objects → PairsRight z run.tables s o
pairs_right z words first run inv s o slot below =
    let right = by (live_at run.tables s) refl in
    record { zero = inv.zero s o slot below; spoiled = right.spoiled; called = right.called }
  where
    by : (live : Bool) → live_at run.tables s ≡ live → Right (pair_at z run.tables s o)
    by false e = none_right (pair_at z run.tables s o) (inv.zero s o slot below e)
    by true e =
        let f = found_of z words first run inv s e in
        rw f.slot at (fact_right o first (standing_of_lem z words first run inv o below) _ _ f.own f.live (fact_of z words first run inv o below s f))
