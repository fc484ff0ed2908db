-- An accepted commit or rollback keeps the invariant.
use Prim.Native.Nat.{ℕ, ◌+◌, ◌<◌}
use mathlib.Core.Bool.{Bool, true, false, ◌&&◌}
use mathlib.Core.List.{List, [], ◌∷◌, ◌++◌}
use mathlib.Core.Logic.{◌≢◌}
use mathlib.Core.Path.{◌≡◌, refl, sym, ◌∙◌}
use lib.Dec.{eqb, ltb}
use lib.ListN.{take}
use borrow.Author.Tests.{eqb-true, eqb-false, ne_eqb, ltb-true, ltb-false}
use Rattle.answers.specs.Order.{pick}
use Rattle.counters.specs.Sizes.{Size}
use Rattle.record_layout.specs.Declarations.{names}
use Rattle.objects.specs.Places.{no_pair, restores, spoiled_pair}
use Rattle.rules.specs.Tables.{State, object_at, live_at, pair_at}
use Rattle.rules.specs.Steps.{end_step}
use Rattle.runs.specs.Histories.{History, Transaction, Status, Live, Committed, RolledBack, is_live, is_rolled_back, with_end, status_of}
use Rattle.runs.specs.Demands.{any_rolled_back}
use Rattle.runs.specs.Companions.{count_live}
use Rattle.runs.specs.Runs.{Within}
use Rattle.rules.proofs.Picking.{clash, and_assoc, and_false, or_true, pick_same}
use Rattle.runs.proofs.OneObject.{calls_on}
use Rattle.rules.proofs.Accepted.{EndFits, Unspoiled, commit_accepted, end_accepted}
use Rattle.rules.proofs.Ended.{Ended}
use Rattle.rules.proofs.EndLeaves.{EndLeaves, ended_word, ended_leaves, end_places}
use Rattle.runs.proofs.EndRecords.{written_bytes}
use Rattle.runs.proofs.Scan.{Standing, stands, Fact}
use Rattle.runs.proofs.Found.{count_append}
use Rattle.runs.proofs.Width.{width}
use Rattle.runs.proofs.Invariant.{standing, Invariant, Object, Proper, all_exchanged}
use Rattle.runs.proofs.RecordsKept.{records_exchanged}
use Rattle.runs.proofs.Untouched.{moved, renamed, pair_outside, declared_lives}
use Rattle.runs.proofs.Acting.{seen, named_declared, acts, at_its_end}
use Rattle.runs.proofs.ObjectEnded.{ended_status, object_ended}
use Rattle.runs.proofs.EndsRead.{own_recorded}

-- a rollback is in the history from then on, and a commit adds none
rolled_shows : (before : History) (x : Transaction) (behind : History) → is_rolled_back x.status ≡ true → any_rolled_back (before ++ x ∷ behind) ≡ true
rolled_shows [] x behind rolled = rw rolled
rolled_shows (y ∷ before) x behind rolled = rw (rolled_shows before x behind rolled) (or_true (is_rolled_back y.status))

live_not_rolled : (status : Status) → is_live status ≡ true → is_rolled_back status ≡ false
live_not_rolled Live e = refl
live_not_rolled Committed e = refl
live_not_rolled RolledBack e = sym e

commit_adds_none : (before : History) (own : Transaction) (behind : History) (rollback : Bool) (written : List ℕ) → rollback ≡ false → is_live own.status ≡ true
    → any_rolled_back (before ++ with_end (status_of rollback) written own ∷ behind) ≡ any_rolled_back (before ++ own ∷ behind)
commit_adds_none [] own behind rollback written commits live = rw (commits, live_not_rolled own.status live)
commit_adds_none (x ∷ before) own behind rollback written commits live = rw (commit_adds_none before own behind rollback written commits live)

-- a transaction that does not list the object is seen alike after its end
fact_unlisted : (q first : ℕ) (v : Standing) (given word : ℕ) (rollback : Bool) (written : List ℕ) (own : Transaction) → names own.declarations q ≡ false
    → Fact q first v given word own → Fact q first v given word (with_end (status_of rollback) written own)
fact_unlisted q first v given word rollback written own unnamed f =
    record {
      unlisted = f.unlisted;
      past = λ ended named. absurd (clash (sym named ∙ unnamed));
      agrees = λ committed. rw (f.unlisted unnamed) tt;
      none = λ alive unnamed. absurd (clash (sym alive ∙ ended_status rollback));
      live = λ alive named. absurd (clash (sym named ∙ unnamed));
    }

module _ (z : Size) (within : Within z) (words : List ℕ) (first : ℕ) (t : State) (before : History) (own : Transaction) (behind : History)
    (inv : Invariant z words first (record { tables = t; history = before ++ own ∷ behind })) (live : is_live own.status ≡ true)
    (none_before : count_live own.slot before ≡ 0) (none_behind : count_live own.slot behind ≡ 0) (rollback : Bool) (tick : ℕ) (buffer : List ℕ)
    (done : (end_step z rollback t own.slot tick buffer).reply.number ≡ 0) where
  abbrev u : State
  u = (end_step z rollback t own.slot tick buffer).tables

  abbrev written : List ℕ
  written = take (end_step z rollback t own.slot tick buffer).reply.value (end_step z rollback t own.slot tick buffer).buffer

  abbrev next : Transaction
  next = with_end (status_of rollback) written own

  unspoiled : (b : Bool) → (end_step z b t own.slot tick buffer).reply.number ≡ 0 → b ≡ false → Unspoiled z t own.slot
  unspoiled true accepted e = absurd (clash e)
  unspoiled false accepted e = ((commit_accepted z t own.slot tick buffer).0 accepted).unspoiled

  fitting : EndFits z rollback t own.slot tick buffer
  fitting = end_accepted z t rollback own.slot tick buffer done

  ends : Ended z rollback own.slot t u
  ends = end_places z t inv.sized own.slot tick buffer rollback done

  leaves : EndLeaves z own.slot t u
  leaves = ended_leaves z own.slot fitting.slot t u rollback ends

  -- a pair of another slot is spoiled where the object is put back and it has called it
  pairs : (q : ℕ) → q < z.objects → (r : ℕ) → r ≢ own.slot
      → pair_at z u r q
      ≡ pick ((rollback && restores (pair_at z t own.slot q)) && (live_at t r && (pair_at z t r q).called)) (spoiled_pair (pair_at z t r q)) (pair_at z t r q)
  pairs q below r apart = by (ltb r z.slots) refl
    where
      by : (b : Bool) → ltb r z.slots ≡ b
          → pair_at z u r q
          ≡ pick ((rollback && restores (pair_at z t own.slot q)) && (live_at t r && (pair_at z t r q).called)) (spoiled_pair (pair_at z t r q)) (pair_at z t r q)
      by true e =
          ends.pair r q (ltb-true r z.slots e) below
          ∙ rw (
            ne_eqb r own.slot apart,
            and_assoc rollback (restores (pair_at z t own.slot q)) (live_at t r && (pair_at z t r q).called),
          )
      by false e =
          rw (
            pair_outside z u ends.sized r q (ltb-false r z.slots e),
            pair_outside z t inv.sized r q (ltb-false r z.slots e),
            and_false (live_at t r),
            and_false (rollback && restores (pair_at z t own.slot q)),
          )

  declared_ended : (q : ℕ) (below : q < z.objects) → (pair_at z t own.slot q).declared ≡ true → Object z words first u (before ++ next ∷ behind) q
  declared_ended q below declared =
      let old : Object z words first t (before ++ own ∷ behind) q = inv.objects q below in
      let wide = width z words first (record { tables = t; history = before ++ own ∷ behind }) inv q below in
      let a = acts z within words first t before own behind live q old wide declared in
      object_ended z within words first t u before own behind q old wide live none_before none_behind
      (seen z within words first t before own behind live q old) a
      (at_its_end z words first t before own behind q old a (fitting.need q below declared))
      rollback (λ commits. unspoiled rollback done commits q below) written (declared_lives z words first (record { tables = t; history = before ++ own ∷ behind }) inv q below)
      (record {
        word = rw (ends.object q below) (ended_word z rollback (pair_at z t own.slot q) (object_at t q));
        global = leaves.global q below;
        local = leaves.local q below declared;
        terminal = leaves.terminal q below declared;
        pairs = pairs q below;
      })

  undeclared_ended : (q : ℕ) (below : q < z.objects) → (pair_at z t own.slot q).declared ≡ false → Object z words first u (before ++ next ∷ behind) q
  undeclared_ended q below none =
      renamed z words first q u before own next behind
      (moved z words first q t u (before ++ own ∷ behind) same (leaves.undeclared q below none) old) refl
      (fact_unlisted q first _ _ _ rollback written own unnamed) (λ word. rw silent (pick_same (stands v next) word ∙ sym (pick_same (stands v own) word)))
    where
      old : Object z words first t (before ++ own ∷ behind) q
      old = inv.objects q below

      v : Standing
      v = standing z u q old.terminal old.local

      unnamed : names own.declarations q ≡ false
      unnamed = by (names own.declarations q) refl
        where
          by : (b : Bool) → names own.declarations q ≡ b → names own.declarations q ≡ false
          by false e = e
          by true e = absurd (clash (sym (named_declared z within words first t before own behind live q old e) ∙ none))

      silent : calls_on q own.calls ≡ []
      silent = (seen z within words first t before own behind live q old).fact.unlisted unnamed

      same : (r : ℕ) → pair_at z u r q ≡ pair_at z t r q
      same r = by (eqb r own.slot) refl
        where
          by : (b : Bool) → eqb r own.slot ≡ b → pair_at z u r q ≡ pair_at z t r q
          by true e =
              rw (eqb-true r own.slot e)
              (leaves.own q below ∙ sym ((seen z within words first t before own behind live q old).fact.none live unnamed))
          by false e = pairs q below r (eqb-false r own.slot e) ∙ rw (none, and_false rollback)

  live_now : (r : ℕ) → count_live r (before ++ next ∷ behind) ≡ pick (live_at u r) 1 0
  live_now r = by (eqb r own.slot) refl
    where
      by : (b : Bool) → eqb r own.slot ≡ b → count_live r (before ++ next ∷ behind) ≡ pick (live_at u r) 1 0
      by true e =
          rw (eqb-true r own.slot e, leaves.own_live)
          (count_append own.slot before (next ∷ behind) ∙ rw (none_before, none_behind, ended_status rollback))
      by false e =
          let apart : r ≢ own.slot = eqb-false r own.slot e in
          let whole : count_live r before + count_live r (own ∷ behind) ≡ pick (live_at t r) 1 0 =
          sym (count_append r before (own ∷ behind)) ∙ inv.live r in
          count_append r before (next ∷ behind)
          ∙ rw (leaves.live r apart, ended_status rollback)
          (rw (live, ne_eqb own.slot r (λ same. apart (sym same))) at whole)

  pub end_kept : Invariant z words first (record { tables = u; history = before ++ next ∷ behind })
  end_kept =
      record {
        sized = ends.sized;
        live = live_now;
        proper =
            all_exchanged (Proper z) before own next behind
            (λ p. record { inside = p.inside; some = p.some; named = p.named; calls = p.calls }) inv.proper;
        objects = λ q below. by q below (pair_at z t own.slot q).declared refl;
        zero = λ r q slot below idle. zero_now r q slot below idle (eqb r own.slot) refl;
        records =
            records_exchanged z (λ q. first + 1) before own next behind inv.records (λ q. refl)
            (λ version counted ended.
            rw (written_bytes z t rollback own.slot tick buffer done)
            (own_recorded z within words first t before own behind inv live fitting.slot rollback tick version counted));
        clean = λ none r q slot below. clean_now rollback refl none r q slot below (eqb r own.slot) refl;
      }
    where
      by : (q : ℕ) → q < z.objects → (b : Bool) → (pair_at z t own.slot q).declared ≡ b → Object z words first u (before ++ next ∷ behind) q
      by q below true e = declared_ended q below e
      by q below false e = undeclared_ended q below e

      zero_now : (r q : ℕ) → r < z.slots → q < z.objects → live_at u r ≡ false → (b : Bool) → eqb r own.slot ≡ b → pair_at z u r q ≡ no_pair
      zero_now r q slot below idle true e = rw (eqb-true r own.slot e) (leaves.own q below)
      zero_now r q slot below idle false e =
          let apart : r ≢ own.slot = eqb-false r own.slot e in
          pairs q below r apart
          ∙ rw (
            inv.zero r q slot below (sym (leaves.live r apart) ∙ idle),
            and_false (live_at t r),
            and_false (rollback && restores (pair_at z t own.slot q)),
          )

      clean_now : (b : Bool) → rollback ≡ b → any_rolled_back (before ++ next ∷ behind) ≡ false → (r q : ℕ) → r < z.slots → q < z.objects
          → (c : Bool) → eqb r own.slot ≡ c → (pair_at z u r q).spoiled ≡ false
      clean_now true e none r q slot below c d = absurd (clash (sym (rolled_shows before next behind (rw e)) ∙ none))
      clean_now false e none r q slot below true d = rw (eqb-true r own.slot d, leaves.own q below)
      clean_now false e none r q slot below false d =
          let hidden : any_rolled_back (before ++ own ∷ behind) ≡ false = sym (commit_adds_none before own behind rollback written e live) ∙ none in
          rw (pairs q below r (eqb-false r own.slot d), e) (inv.clean hidden r q slot below)
