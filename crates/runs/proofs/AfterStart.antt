-- An accepted start keeps the invariant.
use Prim.Native.Nat.{ℕ, ◌+◌, ◌<◌}
use mathlib.Core.Bool.{Bool, true, false}
use mathlib.Core.List.{List, [], ◌∷◌, ◌++◌}
use mathlib.Core.Logic.{◌≢◌}
use mathlib.Core.Path.{◌≡◌, refl, sym, ◌∙◌}
use native.Mathlib.Omega.{arith}
use lib.Dec.{eqb}
use borrow.Author.Tests.{eqb-true, eqb-false, eq-eqb, ne_eqb}
use Rattle.answers.specs.Order.{pick}
use Rattle.counters.specs.Sizes.{Size}
use Rattle.record_layout.specs.Declarations.{Declaration, declarations_of, names}
use Rattle.record_layout.proofs.DeclarationWalk.{declarations_some}
use Rattle.objects.specs.Places.{no_pair}
use Rattle.objects.specs.declared.Pair.{Pair}
use Rattle.rules.specs.Tables.{State, live_at, pair_at}
use Rattle.rules.specs.Steps.{start_step}
use Rattle.runs.specs.Histories.{History, begun, is_rolled_back}
use Rattle.runs.specs.Demands.{any_rolled_back}
use Rattle.runs.specs.Companions.{count_live}
use Rattle.runs.specs.Runs.{Run}
use Rattle.rules.proofs.Picking.{clash, pick_when}
use Rattle.rules.proofs.Facts.{Rises}
use Rattle.rules.proofs.Accepted.{StartFits, start_accepted}
use Rattle.rules.proofs.Started.{Started}
use Rattle.rules.proofs.Leaves.{StartLeaves, start_places, start_leaves}
use Rattle.runs.proofs.Found.{count_append}
use Rattle.runs.proofs.Invariant.{Invariant, Proper, all_append}
use Rattle.runs.proofs.RecordsKept.{records_begun}
use Rattle.runs.proofs.ObjectStarted.{object_started}

-- what rises names objects that there are
named_inside : (z : Size) (least : ℕ) (declarations : List Declaration) → Rises z least declarations → (o : ℕ) → names declarations o ≡ true → o < z.objects
named_inside z least [] rises o named = absurd (clash (sym named))
named_inside z least (declaration ∷ rest) rises o named =
    by (eqb o declaration.object) refl (named_inside z (declaration.object + 1) rest rises.behind o)
  where
    by : (b : Bool) → eqb o declaration.object ≡ b → (names rest o ≡ true → o < z.objects) → o < z.objects
    by true e behind = omega (arith, eqb-true o declaration.object e, rises.inside)
    by false e behind = behind (rw e at named)

-- the first declaration names its object
first_named : (declarations : List Declaration) → declarations ≢ [] → (some : ℕ) × (names declarations some ≡ true)
first_named [] some = absurd (some refl)
first_named (declaration ∷ rest) some = (declaration.object, rw (eq-eqb declaration.object declaration.object refl))

-- no rollback was accepted before, where none is in the longer history
pub earlier_clean : (a b : History) → any_rolled_back (a ++ b) ≡ false → any_rolled_back a ≡ false
earlier_clean [] b clean = refl
earlier_clean (x ∷ a) b clean = by (is_rolled_back x.status) refl (earlier_clean a b)
  where
    by : (r : Bool) → is_rolled_back x.status ≡ r → (any_rolled_back (a ++ b) ≡ false → any_rolled_back a ≡ false) → any_rolled_back (x ∷ a) ≡ false
    by true e rest = absurd (clash (rw e at clean))
    by false e rest = rw e (rest (rw e at clean))

module _ (z : Size) (words : List ℕ) (first : ℕ) (run : Run) (inv : Invariant z words first run) (s : ℕ) (list : List ℕ)
    (done : (start_step z run.tables s list).reply.number ≡ 0) where
  abbrev t : State
  t = run.tables

  abbrev declarations : List Declaration
  declarations = declarations_of list

  abbrev u : State
  u = (start_step z t s list).tables

  fits : StartFits z s (live_at t s) list
  fits = (start_accepted z t s list).0 done

  started : Started z s declarations t u
  started = start_places z t inv.sized s list done

  leaves : StartLeaves z s declarations t u
  leaves = start_leaves z t inv.sized s list done

  idle : count_live s run.history ≡ 0
  idle = inv.live s ∙ rw fits.free

  proper : Proper z (begun s declarations)
  proper =
      let named = first_named declarations (declarations_some list fits.some fits.even) in
      record { inside = named_inside z 0 declarations fits.rises; some = named.0; named = named.1; calls = tt }

  live_now : (r : ℕ) → count_live r (run.history ++ begun s declarations ∷ []) ≡ pick (live_at u r) 1 0
  live_now r = by (eqb r s) refl
    where
      by : (b : Bool) → eqb r s ≡ b → count_live r (run.history ++ begun s declarations ∷ []) ≡ pick (live_at u r) 1 0
      by true e =
          let same : r ≡ s = eqb-true r s e in
          rw (same, leaves.own_live) (count_append s run.history (begun s declarations ∷ []) ∙ rw (idle, eq-eqb s s refl))
      by false e =
          let apart : r ≢ s = eqb-false r s e in
          count_append r run.history (begun s declarations ∷ []) ∙ rw (leaves.live r apart, inv.live r, ne_eqb s r (λ same. apart (sym same))) (omega arith)

  unspoiled_now : (q : ℕ) → q < z.objects → (pair_at z u s q).spoiled ≡ false
  unspoiled_now q below =
      rw (started.pair s q below, eq-eqb s s refl) (pick_when (λ (p : Pair). p.spoiled ≡ false) (names declarations q) (λ e. refl) (λ e. refl))

  pub start_kept : Invariant z words first (record { tables = u; history = run.history ++ begun s declarations ∷ [] })
  start_kept =
      record {
        sized = started.sized;
        live = live_now;
        proper = all_append (Proper z) run.history (begun s declarations ∷ []) inv.proper (proper, tt);
        objects = λ q below. object_started z words first t u run.history s declarations q below (inv.objects q below) idle started leaves;
        zero = λ r q slot below none. zero_now r q slot below none (eqb r s) refl;
        records = records_begun z (λ q. first + 1) run.history (begun s declarations) refl inv.records;
        clean = λ none r q slot below. clean_now none r q slot below (eqb r s) refl;
      }
    where
      zero_now : (r q : ℕ) → r < z.slots → q < z.objects → live_at u r ≡ false → (b : Bool) → eqb r s ≡ b → pair_at z u r q ≡ no_pair
      zero_now r q slot below none true e = absurd (clash (sym leaves.own_live ∙ rw (eqb-true r s e) at none))
      zero_now r q slot below none false e =
          let apart : r ≢ s = eqb-false r s e in
          leaves.pairs r q below apart ∙ inv.zero r q slot below (sym (leaves.live r apart) ∙ none)

      clean_now : any_rolled_back (run.history ++ begun s declarations ∷ []) ≡ false → (r q : ℕ) → r < z.slots → q < z.objects → (b : Bool) → eqb r s ≡ b
          → (pair_at z u r q).spoiled ≡ false
      clean_now none r q slot below true e = rw (eqb-true r s e) (unspoiled_now q below)
      clean_now none r q slot below false e =
          rw (leaves.pairs r q below (eqb-false r s e)) (inv.clean (earlier_clean run.history (begun s declarations ∷ []) none) r q slot below)
