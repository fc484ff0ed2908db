-- An object after an accepted start: the scan of the history, with the new transaction at its end, still tells its word and its versions.
use Prim.Native.Nat.{ℕ, ◌+◌, ◌%◌, ◌<◌}
use mathlib.Core.Bool.{Bool, true, false}
use mathlib.Core.List.{List, [], ◌∷◌, ◌++◌}
use mathlib.Core.Path.{◌≡◌, refl, sym, ◌∙◌}
use native.Mathlib.Omega.{arith}
use native.Mathlib.Nat.{zero-add}
use lib.ListN.{get_or}
use borrow.Author.Tests.{eq-eqb}
use Rattle.answers.specs.Order.{pick}
use Rattle.counters.specs.Sizes.{Size}
use Rattle.counters.specs.Versions.{turnover}
use Rattle.record_layout.specs.Declarations.{Declaration, names}
use Rattle.objects.specs.Places.{given_out, declared_with}
use Rattle.rules.specs.Tables.{State, object_at, pair_at}
use Rattle.runs.specs.Histories.{History, begun}
use Rattle.runs.specs.Companions.{count_live, declarers}
use Rattle.rules.proofs.Picking.{clash, pick_same}
use Rattle.runs.proofs.Scan.{Standing, declares, replayed, Fact, Scan, declarers_append, scan_joins, replayed_append, stands}
use Rattle.runs.proofs.Carried.{scan_kept}
use Rattle.runs.proofs.Unwrapped.{next_is}
use Rattle.rules.proofs.Started.{Started, supremum_of}
use Rattle.rules.proofs.Leaves.{StartLeaves}
use Rattle.runs.proofs.Invariant.{standing, Object}
use Rattle.runs.proofs.ObjectCalled.{keeping_all}

module _ (z : Size) (words : List ℕ) (first : ℕ) (t u : State) (history : History) (s : ℕ) (declarations : List Declaration) (q : ℕ) (below : q < z.objects)
    (old : Object z words first t history q) (idle : count_live s history ≡ 0) (started : Started z s declarations t u) (leaves : StartLeaves z s declarations t u) where
  abbrev v : Standing
  v = standing z t q old.terminal old.local

  abbrev n : Standing
  n = standing z u q old.terminal old.local

  abbrev word : ℕ
  word = get_or words q 0

  kept : Scan q first n 0 word history × (replayed q n word history ≡ replayed q v word history)
  kept =
      scan_kept q first s v n 0 (declarers q history) (keeping_all s v n 0 (declarers q history) (λ r apart. leaves.pairs r q below apart) refl (omega arith))
      0 word history (omega arith) (omega arith) idle old.scan

  declared_now : names declarations q ≡ true → pair_at z u s q ≡ declared_with (supremum_of declarations q) (given_out (object_at t q)).global
  declared_now named = started.pair s q below ∙ rw (eq-eqb s s refl, named)

  fact : Fact q first n (declarers q history) (replayed q n word history) (begun s declarations)
  fact =
      record {
        unlisted = λ unnamed. refl;
        past = λ ended named. absurd (clash ended);
        agrees = λ committed. absurd (clash (sym committed));
        none = λ alive unnamed. leaves.zero q below unnamed;
        live =
            λ alive named. record {
              declared = rw (declared_now named);
              private = rw (declared_now named, old.global_is) (next_is first (declarers q history));
              ahead = omega (arith, old.low, old.high);
              turned = rw (declared_now named) (λ called. absurd (clash (sym called)));
              silent = λ uncalled. refl;
              clean = rw (declared_now named) (λ uncalled. refl);
              agrees = λ clean. tt;
              saved = rw (declared_now named) (λ clean called. absurd (clash (sym called)));
            };
      }

  counted : declarers q (history ++ begun s declarations ∷ []) ≡ declarers q history + declares q (begun s declarations)
  counted = omega (arith, declarers_append q history (begun s declarations ∷ []))

  global_now : (object_at u q).global.0 ≡ (first + declarers q (history ++ begun s declarations ∷ [])) % turnover
  global_now = rw (counted, started.object q) (by (names declarations q) refl)
    where
      by : (b : Bool) → names declarations q ≡ b
          → (pick (names declarations q) (given_out (object_at t q)) (object_at t q)).global.0 ≡ (first + (declarers q history + pick (names declarations q) 1 0)) % turnover
      by true e = rw (e, old.global_is) (omega arith)
      by false e = rw (e, old.global_is) (omega arith)

  pub object_started : Object z words first u (history ++ begun s declarations ∷ []) q
  object_started =
      record {
        terminal = old.terminal;
        local = old.local;
        scan = scan_joins q first n 0 word history (begun s declarations ∷ []) kept.0 (rw (zero-add (declarers q history)) (fact, tt));
        word_is =
            leaves.word q
            ∙ old.word_is
            ∙ sym kept.1
            ∙ sym (replayed_append q first n word history (begun s declarations ∷ []) ∙ pick_same (stands n (begun s declarations)) (replayed q n word history));
        global_is = global_now;
        local_is = rw (leaves.local q) old.local_is;
        terminal_is = rw (leaves.terminal q) old.terminal_is;
        low = old.low;
        high = omega (arith, old.high, counted);
      }
