-- An accepted call and an accepted release keep the invariant.
use Prim.Native.Nat.{ℕ, ◌+◌, ◌*◌, ◌<◌, ◌≤◌}
use mathlib.Core.Bool.{Bool, true, false}
use mathlib.Core.List.{List, [], ◌∷◌, ◌++◌}
use mathlib.Core.Logic.{◌≢◌}
use mathlib.Core.Path.{◌≡◌, refl, sym, ap, ◌∙◌}
use lib.Dec.{eqb}
use lib.ListN.{get_or}
use borrow.Author.Tests.{eqb-true, eqb-false, eq-eqb}
use Rattle.counters.specs.Sizes.{Size}
use Rattle.kinds.specs.Kinds.{acted}
use Rattle.objects.specs.Places.{no_pair}
use Rattle.objects.specs.declared.Pair.{Pair}
use Rattle.rules.specs.Tables.{State, object_at, live_at, pair_at}
use Rattle.rules.specs.Steps.{call_step, release_step}
use Rattle.runs.specs.Histories.{History, Transaction, Call, is_live, with_call}
use Rattle.runs.specs.Demands.{any_rolled_back}
use Rattle.runs.specs.Companions.{count_live, declarers}
use Rattle.runs.specs.Runs.{Within}
use Rattle.rules.proofs.Picking.{clash, and_false}
use Rattle.rules.proofs.Accepted.{ReleaseFits, CallFits, call_accepted, release_accepted}
use Rattle.rules.proofs.Called.{Called, GaveWay}
use Rattle.rules.proofs.Leaves.{CallLeaves, call_places, call_leaves, release_places}
use Rattle.runs.proofs.OneObject.{calls_on, calls_elsewhere}
use Rattle.runs.proofs.Alone.{inside_append}
use Rattle.runs.proofs.Scan.{Standing, LiveFact, Fact}
use Rattle.runs.proofs.Found.{count_append}
use Rattle.runs.proofs.Width.{width}
use Rattle.runs.proofs.Invariant.{Invariant, Object, Proper, all_exchanged}
use Rattle.runs.proofs.RecordsKept.{records_at, records_exchanged}
use Rattle.runs.proofs.Untouched.{moved, renamed}
use Rattle.runs.proofs.Acting.{seen, acts, at_its_turn}
use Rattle.runs.proofs.ObjectCalled.{object_released, object_called}

-- a transaction with the same calls on an object is seen alike
fact_called : (q first : ℕ) (v : Standing) (given word : ℕ) (call : Call) (own : Transaction) → calls_on q (own.calls ++ call ∷ []) ≡ calls_on q own.calls
    → Fact q first v given word own → Fact q first v given word (with_call call own)
fact_called q first v given word call own alike f =
    record {
      unlisted = rw alike f.unlisted;
      past = f.past;
      agrees = rw alike f.agrees;
      none = f.none;
      live =
          λ live named.
          let g : LiveFact q first v given word own = f.live live named in
          record {
            declared = g.declared;
            private = g.private;
            ahead = g.ahead;
            turned = g.turned;
            silent = rw alike g.silent;
            clean = g.clean;
            agrees = rw alike g.agrees;
            saved = g.saved;
          };
    }

-- one call more changes neither how often a slot is live nor whether any was rolled back
count_called : (s : ℕ) (before : History) (own : Transaction) (behind : History) (call : Call)
    → count_live s (before ++ with_call call own ∷ behind) ≡ count_live s (before ++ own ∷ behind)
count_called s before own behind call = count_append s before (with_call call own ∷ behind) ∙ sym (count_append s before (own ∷ behind))

rolled_called : (before : History) (own : Transaction) (behind : History) (call : Call)
    → any_rolled_back (before ++ with_call call own ∷ behind) ≡ any_rolled_back (before ++ own ∷ behind)
rolled_called [] own behind call = refl
rolled_called (x ∷ before) own behind call = rw (rolled_called before own behind call)

module _ (z : Size) (within : Within z) (words : List ℕ) (first : ℕ) (t : State) (before : History) (own : Transaction) (behind : History)
    (inv : Invariant z words first (record { tables = t; history = before ++ own ∷ behind })) (live : is_live own.status ≡ true)
    (none_before : count_live own.slot before ≡ 0) (none_behind : count_live own.slot behind ≡ 0) (o : ℕ) where
  wide : (q : ℕ) (below : q < z.objects) → declarers q (before ++ own ∷ behind) ≤ (inv.objects q below).terminal + z.slots
  wide q below = width z words first (record { tables = t; history = before ++ own ∷ behind }) inv q below

  module _ (done : (release_step z t own.slot o).reply.number ≡ 0) where
    pub release_kept : Invariant z words first (record { tables = (release_step z t own.slot o).tables; history = before ++ own ∷ behind })
    release_kept =
        record {
          sized = gave.sized;
          live = rw gave.live inv.live;
          proper = inv.proper;
          objects = λ q below. by q below (eqb q o) refl;
          zero = rw (gave.live, gave.pairs) inv.zero;
          records = inv.records;
          clean = rw gave.pairs inv.clean;
        }
      where
        u : State
        u = (release_step z t own.slot o).tables

        fits : ReleaseFits z t own.slot o
        fits = (release_accepted z t own.slot o).0 done

        gave : GaveWay z own.slot o t u
        gave = release_places z t inv.sized own.slot o done

        same : (q r : ℕ) → pair_at z u r q ≡ pair_at z t r q
        same q r = ap (λ (l : List Pair). get_or l (r * z.objects + q) no_pair) gave.pairs

        let_go : (below : o < z.objects) → Object z words first u (before ++ own ∷ behind) o
        let_go below =
            let old : Object z words first t (before ++ own ∷ behind) o = inv.objects o below in
            let a = acts z within words first t before own behind live o old (wide o below) fits.declared in
            object_released z words first t u before own behind o old live none_before none_behind
            (seen z within words first t before own behind live o old) a (at_its_turn z words first t before own behind o old a fits.turn)
            (same o) (gave.object o ∙ rw (eq-eqb o o refl))

        by : (q : ℕ) → q < z.objects → (b : Bool) → eqb q o ≡ b → Object z words first u (before ++ own ∷ behind) q
        by q below true e = rw (eqb-true q o e) (let_go (rw (eqb-true q o e) at below))
        by q below false e =
            moved z words first q t u (before ++ own ∷ behind) (same q) (gave.object q ∙ rw e) (inv.objects q below)

  module _ (kind argument : ℕ) (done : (call_step z t own.slot o kind argument).reply.number ≡ 0) where
    abbrev call : Call
    call = record { object = o; kind = kind; argument = argument; answer = (acted kind (object_at t o).word argument).answer }

    abbrev u : State
    u = (call_step z t own.slot o kind argument).tables

    fits : CallFits z t own.slot o kind
    fits = (call_accepted z t own.slot o kind argument).0 done

    called : Called z own.slot o kind argument t u
    called = call_places z t inv.sized own.slot o kind argument done

    leaves : CallLeaves z own.slot o t u
    leaves = call_leaves z t inv.sized own.slot o kind argument done

    -- the pair of the call keeps its spoiled mark, and all others stay
    spoiled_stays : (r q : ℕ) → q < z.objects → (pair_at z u r q).spoiled ≡ (pair_at z t r q).spoiled
    spoiled_stays r q below = by (eqb r own.slot) refl (eqb q o) refl
      where
        by : (b : Bool) → eqb r own.slot ≡ b → (c : Bool) → eqb q o ≡ c → (pair_at z u r q).spoiled ≡ (pair_at z t r q).spoiled
        by false e c d = rw (called.pair r q below, e)
        by true e false d = rw (called.pair r q below, d, and_false (eqb r own.slot))
        by true e true d = rw (called.pair r q below, e, d, eqb-true r own.slot e, eqb-true q o d)

    own_called : (below : o < z.objects) → Object z words first u (before ++ with_call call own ∷ behind) o
    own_called below =
        let old : Object z words first t (before ++ own ∷ behind) o = inv.objects o below in
        let a = acts z within words first t before own behind live o old (wide o below) fits.release.declared in
        object_called z words first t u before own behind o old live none_before none_behind
        (seen z within words first t before own behind live o old) a (at_its_turn z words first t before own behind o old a fits.release.turn)
        kind argument (fits.unspoiled o below) (λ r apart. leaves.pairs r o below (λ both. apart both.0))
        (called.pair own.slot o below ∙ rw (eq-eqb own.slot own.slot refl, eq-eqb o o refl))
        (called.object o ∙ rw (eq-eqb o o refl))

    other_called : (q : ℕ) → q < z.objects → q ≢ o → Object z words first u (before ++ with_call call own ∷ behind) q
    other_called q below other =
        let alike : calls_on q (own.calls ++ call ∷ []) ≡ calls_on q own.calls = calls_elsewhere q own.calls call (λ same. other (sym same)) in
        let stays : Object z words first u (before ++ own ∷ behind) q =
        moved z words first q t u (before ++ own ∷ behind) (λ r. leaves.pairs r q below (λ both. other both.1)) (leaves.objects q other)
        (inv.objects q below) in
        renamed z words first q u before own (with_call call own) behind stays refl (fact_called q first _ _ _ call own alike) (λ word. rw alike)

    pub call_kept : Invariant z words first (record { tables = u; history = before ++ with_call call own ∷ behind })
    call_kept =
        record {
          sized = called.sized;
          live = λ s. count_called s before own behind call ∙ rw called.live (inv.live s);
          proper = all_exchanged (Proper z) before own (with_call call own) behind proper inv.proper;
          objects = λ q below. by q below (eqb q o) refl;
          zero = λ s q slot below idle. zero_stays s q below idle (inv.zero s q slot below (rw called.live at idle));
          records =
              records_exchanged z (λ q. first + 1) before own (with_call call own) behind inv.records (λ q. refl)
              (records_at z (λ q. first + 1) before own behind inv.records);
          clean = λ none s q slot below. rw (spoiled_stays s q below) (inv.clean (sym (rolled_called before own behind call) ∙ none) s q slot below);
        }
      where
        proper : Proper z own → Proper z (with_call call own)
        proper p =
            record {
              inside = p.inside;
              some = p.some;
              named = p.named;
              calls = inside_append z.objects own.calls (call ∷ []) p.calls (fits.release.object, tt);
            }

        zero_stays : (s q : ℕ) → q < z.objects → live_at u s ≡ false → pair_at z t s q ≡ no_pair → pair_at z u s q ≡ no_pair
        zero_stays s q below idle zero =
            leaves.pairs s q below
            (λ both. clash (sym fits.release.live ∙ rw (both.0, called.live) at idle))
            ∙ zero

        by : (q : ℕ) → q < z.objects → (b : Bool) → eqb q o ≡ b → Object z words first u (before ++ with_call call own ∷ behind) q
        by q below true e = rw (eqb-true q o e) (own_called (rw (eqb-true q o e) at below))
        by q below false e = other_called q below (eqb-false q o e)
