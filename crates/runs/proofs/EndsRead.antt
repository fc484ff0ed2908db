-- The record that an end of a reachable transaction writes reads back, and lists what its start listed, with the versions given out to it.
use Prim.Native.Nat.{ℕ, suc, ◌+◌, ◌%◌, ◌<◌}
use mathlib.Core.Bool.{Bool, true, false}
use mathlib.Core.List.{List, [], ◌∷◌, ◌++◌, append-nil}
use mathlib.Core.Path.{◌≡◌, refl, ap, ◌∙◌}
use native.Mathlib.Omega.{arith}
use Rattle.counters.specs.Sizes.{Size}
use Rattle.counters.specs.Versions.{turnover}
use Rattle.record_layout.specs.Declarations.{names}
use Rattle.rules.specs.Tables.{State, pair_at}
use Rattle.rules.specs.Effects.{end_record}
use Rattle.runs.specs.Histories.{History, Transaction, is_live}
use Rattle.runs.specs.Companions.{ReadsBack, declarers}
use Rattle.runs.specs.Runs.{Within}
use Rattle.runs.proofs.EndRecords.{Listing, record_reads_back, declared_listed, listed_declared}
use Rattle.runs.proofs.RecordOrder.{Recorded}
use Rattle.runs.proofs.Invariant.{Invariant, Proper, all_at}
use Rattle.runs.proofs.Acting.{seen, declared_named, named_declared}

module _ (z : Size) (within : Within z) (words : List ℕ) (first : ℕ) (t : State) (before : History) (own : Transaction) (behind : History)
    (inv : Invariant z words first (record { tables = t; history = before ++ own ∷ behind })) (live : is_live own.status ≡ true)
    (slot : own.slot < z.slots) where
  proper : Proper z own
  proper = all_at (Proper z) before own behind inv.proper

  named_private : (q : ℕ) → q < z.objects → names own.declarations q ≡ true → (pair_at z t own.slot q).private.0 ≡ (first + suc (declarers q before)) % turnover
  named_private q below named = ((seen z within words first t before own behind live q (inv.objects q below)).fact.live live named).private

  pub own_listing : Listing z t own.slot
  own_listing =
      record {
        slot = slot;
        some = proper.some;
        inside = proper.inside proper.some proper.named;
        declared =
            named_declared z within words first t before own behind live proper.some
            (inv.objects proper.some (proper.inside proper.some proper.named)) proper.named;
        fits = λ q below. by q below (names own.declarations q) refl;
      }
    where
      by : (q : ℕ) → q < z.objects → (b : Bool) → names own.declarations q ≡ b → (pair_at z t own.slot q).private.0 < turnover
      by q below true e = rw (named_private q below e) (omega arith)
      by q below false e =
          rw ((seen z within words first t before own behind live q (inv.objects q below)).fact.none live e) (omega arith)

  pub own_reads_back : (rollback : Bool) (tick : ℕ) (rest : List ℕ)
      → ReadsBack z t rollback own.slot tick (end_record z rollback own.slot tick t ++ rest)
  own_reads_back rollback tick rest = record_reads_back z within t rollback own.slot tick rest own_listing

  pub own_recorded : (rollback : Bool) (tick : ℕ) (version : ℕ → ℕ) → ((q : ℕ) → version q ≡ first + 1 + declarers q before)
      → Recorded z (end_record z rollback own.slot tick t) own.declarations version
  own_recorded rollback tick version counted =
      record {
        is_end_lem = rw reads.record_is;
        listed =
            λ q named.
            let below : q < z.objects = proper.inside q named in
            let given : (pair_at z t own.slot q).private.0 ≡ version q % turnover =
            named_private q below named ∙ ap (λ (k : ℕ). k % turnover) (omega (arith, counted q)) in
            rw (reads.entries, ← given)
            (declared_listed z own.slot t q below (named_declared z within words first t before own behind live q (inv.objects q below) named));
        only =
            λ q v lists.
            let d = listed_declared z own.slot t q v (rw reads.entries at lists) in
            declared_named z within words first t before own behind live q (inv.objects q d.0) d.1;
      }
    where
      reads : ReadsBack z t rollback own.slot tick (end_record z rollback own.slot tick t)
      reads = rw (append-nil (end_record z rollback own.slot tick t)) at (own_reads_back rollback tick [])
