-- An object that an event does not touch: its tables stay, and the transaction of the event is seen alike from it.
use Prim.Native.Nat.{ℕ, ◌+◌, ◌*◌, ◌<◌, ◌≤◌}
use mathlib.Core.Bool.{Bool, true, false}
use mathlib.Core.List.{List, ◌∷◌, ◌++◌}
use mathlib.Core.Path.{◌≡◌, refl, sym, ap, subst, ◌∙◌}
use native.Mathlib.Omega.{arith}
use native.Mathlib.Nat.{mul-le-mul_right}
use lib.ListN.{get_or, get_or-eq_default}
use lib.Dec.{ltb}
use borrow.Author.Tests.{ltb-true, ltb-false}
use Rattle.counters.specs.Sizes.{Size}
use Rattle.objects.specs.Places.{no_pair}
use Rattle.objects.specs.declared.Pair.{Pair}
use Rattle.rules.specs.Tables.{State, object_at, live_at, pair_at}
use Rattle.runs.specs.Histories.{History, Transaction}
use Rattle.runs.specs.Companions.{declarers}
use Rattle.runs.specs.Runs.{Run}
use Rattle.rules.proofs.Picking.{clash}
use Rattle.rules.proofs.Stores.{Sized}
use Rattle.runs.proofs.Scan.{Standing, declares, word_after, replayed, Fact, Scan, declarers_append, replayed_append}
use Rattle.runs.proofs.Exchanged.{Parts, scan_parts, parts_scan}
use Rattle.runs.proofs.Invariant.{standing, Object, Invariant}

-- past the last slot there is no pair and no live mark
pub pair_outside : (z : Size) (t : State) → Sized z t → (r q : ℕ) → z.slots ≤ r → pair_at z t r q ≡ no_pair
pair_outside z t sized r q outside =
    get_or-eq_default t.pairs no_pair {n = r * z.objects + q} (omega (arith, mul-le-mul_right z.objects outside, sized.pairs))

pub live_inside : (z : Size) (t : State) → Sized z t → (s : ℕ) → live_at t s ≡ true → s < z.slots
live_inside z t sized s live = by (ltb s z.slots) refl
  where
    by : (b : Bool) → ltb s z.slots ≡ b → s < z.slots
    by true e = ltb-true s z.slots e
    by false e =
        absurd (clash (sym live ∙ get_or-eq_default t.live false {n = s} (omega (arith, sized.live, ltb-false s z.slots e))))

module _ (z : Size) (words : List ℕ) (first : ℕ) (q : ℕ) where
  -- tables that agree on the object and its pairs
  pub moved : (t u : State) (history : History) → ((r : ℕ) → pair_at z u r q ≡ pair_at z t r q) → object_at u q ≡ object_at t q
      → Object z words first t history q → Object z words first u history q
  moved t u history same object old =
      let stays : standing z t q old.terminal old.local ≡ standing z u q old.terminal old.local =
      λ i. record { pair = λ r. sym (same r) i; terminal = old.terminal; local = old.local } in
      record {
        terminal = old.terminal;
        local = old.local;
        scan = subst (λ (v : Standing). Scan q first v 0 (get_or words q 0) history) stays old.scan;
        word_is = rw object (old.word_is ∙ ap (λ (v : Standing). replayed q v (get_or words q 0) history) stays);
        global_is = rw object old.global_is;
        local_is = rw object old.local_is;
        terminal_is = rw object old.terminal_is;
        low = old.low;
        high = old.high;
      }

  -- a transaction that is seen alike
  pub renamed : (t : State) (before : History) (own next : Transaction) (behind : History) (old : Object z words first t (before ++ own ∷ behind) q)
      → declares q next ≡ declares q own
      → (Fact q first (standing z t q old.terminal old.local) (declarers q before)
      (replayed q (standing z t q old.terminal old.local) (get_or words q 0) before) own
      → Fact q first (standing z t q old.terminal old.local) (declarers q before)
      (replayed q (standing z t q old.terminal old.local) (get_or words q 0) before) next)
      → ((word : ℕ) → word_after q (standing z t q old.terminal old.local) word next
      ≡ word_after q (standing z t q old.terminal old.local) word own)
      → Object z words first t (before ++ next ∷ behind) q
  renamed t before own next behind old alike seen stays =
      let v : Standing = standing z t q old.terminal old.local in
      let word : ℕ = get_or words q 0 in
      let parts : Parts q first v word before own behind = scan_parts q first v word before own behind old.scan in
      let counted : declarers q (before ++ next ∷ behind) ≡ declarers q (before ++ own ∷ behind) =
      omega (arith, declarers_append q before (next ∷ behind), declarers_append q before (own ∷ behind), alike) in
      record {
        terminal = old.terminal;
        local = old.local;
        scan =
            parts_scan q first v word before next behind
            (record {
              before_scan = parts.before_scan;
              fact = seen parts.fact;
              behind_scan = rw (alike, stays (replayed q v word before)) parts.behind_scan;
            });
        word_is =
            old.word_is
            ∙ replayed_append q first v word before (own ∷ behind)
            ∙ ap (λ (k : ℕ). replayed q v k behind) (sym (stays (replayed q v word before)))
            ∙ sym (replayed_append q first v word before (next ∷ behind));
        global_is = rw counted old.global_is;
        local_is = old.local_is;
        terminal_is = old.terminal_is;
        low = old.low;
        high = omega (arith, old.high);
      }

-- whoever has declared an object is live
pub declared_lives : (z : Size) (words : List ℕ) (first : ℕ) (run : Run) → Invariant z words first run → (q : ℕ) → q < z.objects → (r : ℕ)
    → (pair_at z run.tables r q).declared ≡ true → live_at run.tables r ≡ true
declared_lives z words first run inv q below r declared = by (live_at run.tables r) refl (ltb r z.slots) refl
  where
    never : pair_at z run.tables r q ≡ no_pair → live_at run.tables r ≡ true
    never zero = absurd (clash (sym declared ∙ ap (λ (p : Pair). p.declared) zero))

    by : (b : Bool) → live_at run.tables r ≡ b → (c : Bool) → ltb r z.slots ≡ c → live_at run.tables r ≡ true
    by true e c d = e
    by false e true d = never (inv.zero r q (ltb-true r z.slots d) below e)
    by false e false d = never (pair_outside z run.tables inv.sized r q (ltb-false r z.slots d))
