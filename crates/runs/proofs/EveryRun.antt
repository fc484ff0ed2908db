-- The theorem: demands and companions hold after every run from fresh, for any sizes within the bound, and so for the pump.
use Prim.Native.Nat.{ℕ, zero, suc, ◌+◌, ◌*◌, ◌<◌}
use mathlib.Core.Bool.{Bool, true, false}
use mathlib.Core.List.{List, [], ◌∷◌, ◌++◌, map, append_assoc}
use mathlib.Core.Path.{◌≡◌, refl, subst}
use native.Mathlib.Omega.{arith}
use lib.Dec.{ltb}
use lib.ListN.{length, get_or, replicate, drop}
use borrow.Author.Tests.{ltb-true, ltb-false}
use Rattle.counters.specs.Sizes.{Size, base}
use Rattle.counters.specs.Versions.{turnover}
use Rattle.objects.specs.Places.{no_pair}
use Rattle.rules.specs.Tables.{State, no_object, object_at, live_at, pair_at, fresh_object, fresh_tables}
use Rattle.rules.specs.Effects.{end_record}
use Rattle.rules.specs.Events.{Handed}
use Rattle.runs.specs.Histories.{History}
use Rattle.runs.specs.Runs.{Within, Run, fresh_run, run_from, run_of, after}
use Rattle.runs.specs.Demands.{Demands, room_for_end, NoneDoomed}
use Rattle.runs.specs.Companions.{Companions, EndsReadBack, ReadsBack, TrueOrder, unwrapped}
use Rattle.rules.proofs.Stores.{sized_fresh}
use Rattle.rules.proofs.Walking.{none_any}
use Rattle.runs.proofs.Scan.{declares, declarers_append}
use Rattle.runs.proofs.Found.{Found}
use Rattle.runs.proofs.EndRecords.{end_written}
use Rattle.runs.proofs.RecordOrder.{in_true_order}
use Rattle.runs.proofs.RecordsKept.{Records, records_at}
use Rattle.runs.proofs.Invariant.{Invariant, Object}
use Rattle.runs.proofs.VersionsBetween.{between}
use Rattle.runs.proofs.PairsHold.{found_of, pairs_right}
use Rattle.runs.proofs.CommittedAlone.{answers_alone, words_alone}
use Rattle.runs.proofs.EarliestServed.{earliest_served}
use Rattle.runs.proofs.Untouched.{pair_outside, live_inside}
use Rattle.runs.proofs.EndsRead.{own_reads_back}
use Rattle.runs.proofs.AfterEvent.{after_kept, end_live}

-- a place of a list that holds one thing only, inside or past its end
always : {A : Type 0} (n i : ℕ) (a : A) → get_or (replicate n a) i a ≡ a
always zero i a = refl
always (suc n) zero a = refl
always (suc n) (suc i) a = always n i a

fresh_at : (first : ℕ) (words : List ℕ) (o : ℕ) → o < length words → get_or (map (fresh_object first) words) o no_object ≡ fresh_object first (get_or words o 0)
fresh_at first [] o inside = absurd (omega arith)
fresh_at first (word ∷ words) zero inside = refl
fresh_at first (word ∷ words) (suc o) inside = fresh_at first words o (omega arith)

module _ (z : Size) (words : List ℕ) (first : ℕ) (all : length words ≡ z.objects) (small : first < turnover) where
  -- fresh tables meet the invariant, and every event keeps it
  fresh_object_lem : (o : ℕ) → o < z.objects → Object z words first (fresh_tables z words first) [] o
  fresh_object_lem o below =
      let there : object_at (fresh_tables z words first) o ≡ fresh_object first (get_or words o 0) = fresh_at first words o (omega arith) in
      record {
        terminal = 0;
        local = 0;
        scan = tt;
        word_is = rw there;
        global_is = rw there (omega arith);
        local_is = rw there (omega arith);
        terminal_is = rw there (omega arith);
        low = omega arith;
        high = omega arith;
      }

  fresh_holds : Invariant z words first (fresh_run z words first)
  fresh_holds =
      record {
        sized = sized_fresh z words first all;
        live = λ s. rw (always z.slots s false);
        proper = tt;
        objects = fresh_object_lem;
        zero = λ s o slot below idle. always (z.slots * z.objects) (s * z.objects + o) no_pair;
        records = tt;
        clean = λ none s o slot below. rw (always (z.slots * z.objects) (s * z.objects + o) no_pair);
      }

  kept_along : Within z → (run : Run) → Invariant z words first run → (events : List Handed) → Invariant z words first (run_from z run events)
  kept_along within run inv [] = inv
  kept_along within run inv (handed ∷ rest) = kept_along within (after z run handed) (after_kept z within words first run inv handed) rest

module _ (z : Size) (within : Within z) (words : List ℕ) (first : ℕ) (run : Run) (inv : Invariant z words first run) where
  abbrev t : State
  t = run.tables

  none_doomed : NoneDoomed z run
  none_doomed none s = none_any z.objects (λ o. (pair_at z t s o).spoiled) (λ o below. by o below (ltb s z.slots) refl)
    where
      by : (o : ℕ) → o < z.objects → (b : Bool) → ltb s z.slots ≡ b → (pair_at z t s o).spoiled ≡ false
      by o below true e = inv.clean none s o (ltb-true s z.slots e) below
      by o below false e = rw (pair_outside z t inv.sized s o (ltb-false s z.slots e))

  read_back : EndsReadBack z t
  read_back rollback s tick buffer done =
      rw (end_written z t rollback s tick buffer done).0 (subst (λ (r : ℕ). ReadsBack z t rollback r tick (end_record z rollback r tick t ++ rest)) f.slot own)
    where
      live : live_at t s ≡ true
      live = end_live z t rollback s tick buffer done

      f : Found s run.history
      f = found_of z words first run inv s live

      rest : List ℕ
      rest = drop (length (end_record z rollback s tick t)) buffer

      split : Invariant z words first (record { tables = t; history = f.before ++ f.own ∷ f.behind })
      split = subst (λ (history : History). Invariant z words first (record { tables = t; history = history })) f.all inv

      own : ReadsBack z t rollback f.own.slot tick (end_record z rollback f.own.slot tick t ++ rest)
      own =
          own_reads_back z within words first t f.before f.own f.behind split f.live
          (rw f.slot (live_inside z t inv.sized s live)) rollback tick rest

  true_order : TrueOrder z first run.history
  true_order o two near =
      in_true_order z two.earlier.written two.later.written two.earlier.declarations two.later.declarations
      (λ q. unwrapped first q two.before) (λ q. unwrapped first q (two.before ++ two.earlier ∷ two.between))
      (records_at z (λ q. first + 1) two.before two.earlier (two.between ++ two.later ∷ two.behind) records
      (λ q. unwrapped first q two.before) (λ q. omega arith) two.earlier_ended)
      (records_at z (λ q. first + 1) (two.before ++ two.earlier ∷ two.between) two.later two.behind
      (rw (append_assoc two.before (two.earlier ∷ two.between) (two.later ∷ two.behind)) records)
      (λ q. unwrapped first q (two.before ++ two.earlier ∷ two.between)) (λ q. omega arith) two.later_ended)
      o two.earlier_lists two.later_lists two.smallest later near
    where
      records : Records z (λ q. first + 1) (two.before ++ two.earlier ∷ (two.between ++ two.later ∷ two.behind))
      records = rw two.all at inv.records

      one : declares o two.earlier ≡ 1
      one = rw two.earlier_lists

      later : unwrapped first o two.before < unwrapped first o (two.before ++ two.earlier ∷ two.between)
      later = omega (arith, declarers_append o two.before (two.earlier ∷ two.between), one)

  demands : length words ≡ z.objects → Demands z words run
  demands all =
      record {
        answers_alone = answers_alone all inv;
        words_alone = words_alone all inv;
        earliest_served = earliest_served z within inv;
        none_doomed = none_doomed;
      }

  companions : Companions z first run
  companions =
      record {
        live_once = inv.live;
        between = between z within words first run inv;
        pairs_right = pairs_right z words first run inv;
        ends_read_back = read_back;
        true_order = true_order;
      }

-- after any events, refused ones too, from any words and any first version
pub every_run : (z : Size) → Within z → (words : List ℕ) (first : ℕ) → length words ≡ z.objects → first < turnover
    → (events : List Handed) → Demands z words (run_of z words first events) × Companions z first (run_of z words first events)
every_run z within words first all small events =
    let run : Run = run_of z words first events in
    let inv : Invariant z words first run =
    kept_along z words first all small within (fresh_run z words first) (fresh_holds z words first all small) events in
    (demands z within words first run inv all, companions z within words first run inv)

-- the pump
pub base_within : Within base
base_within = record { slots = omega arith; objects = omega arith }

pub room_is_130 : room_for_end base ≡ 130
room_is_130 = refl

pub every_run_of_the_pump : (words : List ℕ) (first : ℕ) → length words ≡ 24 → first < turnover → (events : List Handed)
    → Demands base words (run_of base words first events) × Companions base first (run_of base words first events)
every_run_of_the_pump words first all small events = every_run base base_within words first all small events
