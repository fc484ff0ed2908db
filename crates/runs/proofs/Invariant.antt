-- What every event of a run keeps, and from which the statements follow.
use Prim.Native.Nat.{ℕ, ◌+◌, ◌%◌, ◌<◌, ◌≤◌}
use mathlib.Core.Bool.{true, false}
use mathlib.Core.List.{List, [], ◌∷◌, ◌++◌}
use mathlib.Core.Path.{◌≡◌}
use lib.ListN.{get_or}
use Rattle.counters.specs.Sizes.{Size}
use Rattle.counters.specs.Versions.{turnover}
use Rattle.record_layout.specs.Declarations.{names}
use Rattle.objects.specs.Places.{no_pair}
use Rattle.rules.specs.Tables.{State, object_at, live_at, pair_at}
use Rattle.runs.specs.Histories.{History, Transaction}
use Rattle.runs.specs.Demands.{any_rolled_back}
use Rattle.runs.specs.Companions.{LiveOnce, declarers}
use Rattle.runs.specs.Runs.{Run}
use Rattle.rules.proofs.Stores.{Sized}
use Rattle.runs.proofs.Alone.{Inside}
use Rattle.runs.proofs.Scan.{Standing, replayed, Scan}
use Rattle.runs.proofs.RecordsKept.{Records}

-- an object as the scan sees it, where so many of its versions have ended and have been let go
abbrev pub standing : Size → State → ℕ → ℕ → ℕ → Standing
standing z t o terminal local = record { pair = λ r. pair_at z t r o; terminal = terminal; local = local }

-- one object: the table's word and versions are those of the scan of the history
pub record Object (z : Size) (words : List ℕ) (first : ℕ) (t : State) (history : History) (o : ℕ) : Type 0 where
  pub terminal : ℕ
  pub local : ℕ
  pub scan : Scan o first (standing z t o terminal local) 0 (get_or words o 0) history
  pub word_is : (object_at t o).word ≡ replayed o (standing z t o terminal local) (get_or words o 0) history
  pub global_is : (object_at t o).global.0 ≡ (first + declarers o history) % turnover
  pub local_is : (object_at t o).local.0 ≡ (first + local) % turnover
  pub terminal_is : (object_at t o).terminal.0 ≡ (first + terminal) % turnover
  pub low : terminal ≤ local
  pub high : local ≤ declarers o history

-- what an accepted start and the calls accepted since leave in a transaction: its list names an object, and only objects there are
pub record Proper (z : Size) (x : Transaction) : Type 0 where
  pub inside : (o : ℕ) → names x.declarations o ≡ true → o < z.objects
  pub some : ℕ
  pub named : names x.declarations some ≡ true
  pub calls : Inside z.objects x.calls

abbrev pub All : (Transaction → Type 0) → History → Type 0
All P [] = Unit {0}
All P (x ∷ xs) = P x × All P xs

module _ (P : Transaction → Type 0) where
  pub all_append : (a b : History) → All P a → All P b → All P (a ++ b)
  all_append [] b first then = then
  all_append (x ∷ a) b first then = (first.0, all_append a b first.1 then)

  -- a transaction exchanged for another
  pub all_exchanged : (before : History) (own next : Transaction) (behind : History) → (P own → P next) → All P (before ++ own ∷ behind)
      → All P (before ++ next ∷ behind)
  all_exchanged [] own next behind exchange all = (exchange all.0, all.1)
  all_exchanged (x ∷ before) own next behind exchange all = (all.0, all_exchanged before own next behind exchange all.1)

  pub all_at : (before : History) (own : Transaction) (behind : History) → All P (before ++ own ∷ behind) → P own
  all_at [] own behind all = all.0
  all_at (x ∷ before) own behind all = all_at before own behind all.1

pub record Invariant (z : Size) (words : List ℕ) (first : ℕ) (run : Run) : Type 0 where
  pub sized : Sized z run.tables
  pub live : LiveOnce run
  pub proper : All (Proper z) run.history
  pub objects : (o : ℕ) → o < z.objects → Object z words first run.tables run.history o
  pub zero : (s o : ℕ) → s < z.slots → o < z.objects → live_at run.tables s ≡ false → pair_at z run.tables s o ≡ no_pair
  pub records : Records z (λ q. first + 1) run.history
  pub clean : any_rolled_back run.history ≡ false → (s o : ℕ) → s < z.slots → o < z.objects → (pair_at z run.tables s o).spoiled ≡ false
