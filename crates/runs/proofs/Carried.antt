-- Two ways in which a scan goes on after an event of another slot: nothing that it sees has changed, or nobody's calls stand behind a place.
use Prim.Native.Nat.{ℕ, suc, ◌+◌, ◌<◌, ◌≤◌}
use mathlib.Core.Bool.{Bool, true, false}
use mathlib.Core.List.{List, []}
use mathlib.Core.Logic.{◌≢◌}
use mathlib.Core.Path.{◌≡◌, refl, sym, ap, ◌∙◌}
use native.Mathlib.Omega.{arith}
use borrow.Author.Tests.{eq-eqb}
use Rattle.answers.specs.Order.{pick}
use Rattle.counters.specs.declared.Version.{Version}
use Rattle.record_layout.specs.Declarations.{names}
use Rattle.objects.specs.Places.{no_pair}
use Rattle.objects.specs.declared.Pair.{Pair}
use Rattle.runs.specs.Histories.{History, Transaction, Call, Status, Live, Committed, RolledBack, is_live, is_committed, lives_in}
use Rattle.runs.specs.Companions.{count_live, declarers}
use Rattle.rules.proofs.Picking.{clash, pick_when}
use Rattle.runs.proofs.OneObject.{calls_on, replay, Agree}
use Rattle.runs.proofs.Scan.{Standing, declares, stands, word_after, replayed, LiveFact, Fact, Scan, carry}

-- a live transaction that is not the one of slot s is of another slot
pub other_slot : (s : ℕ) (x : Transaction) → lives_in s x ≡ false → is_live x.status ≡ true → x.slot ≢ s
other_slot s x idle live same = clash (rw (live, eq-eqb x.slot s same) at idle)

-- a transaction that declares the object counts
one_declares : (o : ℕ) (x : Transaction) → names x.declarations o ≡ true → declares o x ≡ 1
one_declares o x named = rw named

-- whether the calls stand is told by the spoiled mark, where it is live
stands_alike : (v n : Standing) (x : Transaction) → (is_live x.status ≡ true → (n.pair x.slot).spoiled ≡ (v.pair x.slot).spoiled)
    → stands n x ≡ stands v x
stands_alike v n x alike = by (is_live x.status) refl
  where
    by : (b : Bool) → is_live x.status ≡ b → stands n x ≡ stands v x
    by true e = rw (alike e)
    by false e = rw e

no_calls_agree : (calls : List Call) (word : ℕ) → calls ≡ [] → Agree calls word
no_calls_agree calls word none = rw none tt

no_calls_replay : (calls : List Call) (word : ℕ) → calls ≡ [] → replay calls word ≡ word
no_calls_replay calls word none = rw none

-- how a scan is kept: a pair that is zero stays zero, and where a live transaction declares the object, between two numbers of versions
-- given out, other slots' pairs are as they were and its version has not ended
pub record Keeping (s : ℕ) (v n : Standing) (low high : ℕ) : Type 0 where
  pub grows : v.terminal ≤ n.terminal
  pub lets_go : v.local ≤ n.local
  pub bare : (r : ℕ) → r ≢ s → v.pair r ≡ no_pair → n.pair r ≡ no_pair
  pub ahead : (given : ℕ) → low ≤ given → suc given ≤ high → v.terminal ≤ given → n.terminal ≤ given
  pub same : (given : ℕ) → low ≤ given → suc given ≤ high → v.terminal ≤ given → (r : ℕ) → r ≢ s → n.pair r ≡ v.pair r

module _ (o first s : ℕ) (v n : Standing) (low high : ℕ) (keeping : Keeping s v n low high) where
  live_kept : (given word : ℕ) (x : Transaction) → low ≤ given → suc given ≤ high → x.slot ≢ s
      → LiveFact o first v given word x → LiveFact o first n given word x
  live_kept given word x above below apart f =
      let same : n.pair x.slot ≡ v.pair x.slot = keeping.same given above below f.ahead x.slot apart in
      record {
        declared = rw same f.declared;
        private = rw same f.private;
        ahead = keeping.ahead given above below f.ahead;
        turned = rw same (λ called. let old : given ≤ v.local = f.turned called in omega (arith, keeping.lets_go));
        silent = rw same f.silent;
        clean = rw same f.clean;
        agrees = rw same f.agrees;
        saved = rw same f.saved;
      }

  spoiled_kept : (given word : ℕ) (x : Transaction) → low ≤ given → given + declares o x ≤ high → lives_in s x ≡ false → Fact o first v given word x
      → is_live x.status ≡ true → (n.pair x.slot).spoiled ≡ (v.pair x.slot).spoiled
  spoiled_kept given word x above below idle f live = by (names x.declarations o) refl
    where
      by : (b : Bool) → names x.declarations o ≡ b → (n.pair x.slot).spoiled ≡ (v.pair x.slot).spoiled
      by false e =
          let zero : v.pair x.slot ≡ no_pair = f.none live e in
          rw (zero, keeping.bare x.slot (other_slot s x idle live) zero)
      by true e =
          let g : LiveFact o first v given word x = f.live live e in
          rw (keeping.same given above (omega (arith, one_declares o x e)) g.ahead x.slot (other_slot s x idle live))

  fact_kept : (given word other : ℕ) (x : Transaction) → low ≤ given → given + declares o x ≤ high → lives_in s x ≡ false → other ≡ word
      → Fact o first v given word x → Fact o first n given other x × (word_after o n other x ≡ word_after o v word x)
  fact_kept given word other x above below idle related f = rw related (
    record {
      unlisted = f.unlisted;
      past = λ ended named. let old : given < v.terminal = f.past ended named in omega (arith, keeping.grows);
      agrees = f.agrees;
      none = λ live unnamed. keeping.bare x.slot (other_slot s x idle live) (f.none live unnamed);
      live =
          λ live named.
          live_kept given word x above (omega (arith, one_declares o x named)) (other_slot s x idle live) (f.live live named);
    },
    ap (λ (b : Bool). pick b (replay (calls_on o x.calls) word) word) (stands_alike v n x (spoiled_kept given word x above below idle f)),
  )

  pub scan_kept : (given word : ℕ) (xs : History) → low ≤ given → given + declarers o xs ≤ high → count_live s xs ≡ 0
      → Scan o first v given word xs → Scan o first n given word xs × (replayed o n word xs ≡ replayed o v word xs)
  scan_kept given word xs above below none scan =
      carry o first s v n (λ word other. other ≡ word) low high fact_kept given word word xs above below none refl scan

-- a transaction is in one status
pub committed_ended : (status : Status) → is_committed status ≡ true → is_live status ≡ false
committed_ended Live e = sym e
committed_ended Committed e = refl
committed_ended RolledBack e = refl

pub live_uncommitted : (status : Status) → is_live status ≡ true → is_committed status ≡ false
live_uncommitted Live e = refl
live_uncommitted Committed e = sym e
live_uncommitted RolledBack e = refl

-- of a pair at most the spoiled mark has changed, and whoever has called is spoiled
pub record Marked (before after : Pair) : Type 0 where
  pub declared : after.declared ≡ before.declared
  pub private : after.private ≡ before.private
  pub called : after.called ≡ before.called
  pub spoiled : after.called ≡ true → after.spoiled ≡ true
  pub clean : after.called ≡ false → after.spoiled ≡ before.spoiled

-- nobody's calls stand from a place on, where whoever has called the object is spoiled: the word there stays the word
module _ (o first s : ℕ) (v n : Standing) (low : ℕ) (word : ℕ) (behind : v.terminal ≤ low) (ahead : n.terminal ≤ low) (lets_go : v.local ≤ n.local)
    (bare : (r : ℕ) → r ≢ s → v.pair r ≡ no_pair → n.pair r ≡ no_pair)
    (marked : (given before : ℕ) (x : Transaction) → low ≤ given → lives_in s x ≡ false → is_live x.status ≡ true → LiveFact o first v given before x
    → Marked (v.pair x.slot) (n.pair x.slot)) where
  live_behind : (given before : ℕ) (x : Transaction) → low ≤ given → Marked (v.pair x.slot) (n.pair x.slot)
      → LiveFact o first v given before x → LiveFact o first n given word x
  live_behind given before x above m f =
      record {
        declared = m.declared ∙ f.declared;
        private = ap (λ (version : Version). version.0) m.private ∙ f.private;
        ahead = omega arith;
        turned = λ called. let old : given ≤ v.local = f.turned (sym m.called ∙ called) in omega arith;
        silent = λ uncalled. f.silent (sym m.called ∙ uncalled);
        clean = λ uncalled. m.clean uncalled ∙ f.clean (sym m.called ∙ uncalled);
        agrees = λ clean. no_calls_agree (calls_on o x.calls) word (unspoiled_silent clean (n.pair x.slot).called refl);
        saved = λ clean called. absurd (clash (sym (m.spoiled called) ∙ clean));
      }
    where
      unspoiled_silent : (n.pair x.slot).spoiled ≡ false → (b : Bool) → (n.pair x.slot).called ≡ b → calls_on o x.calls ≡ []
      unspoiled_silent clean true e = absurd (clash (sym (m.spoiled e) ∙ clean))
      unspoiled_silent clean false e = f.silent (sym m.called ∙ e)

  -- where calls stand there are none
  standing_silent : (given before : ℕ) (x : Transaction) → low ≤ given → lives_in s x ≡ false → Fact o first v given before x
      → stands n x ≡ true → calls_on o x.calls ≡ []
  standing_silent given before x above idle f standing = by (names x.declarations o) refl (is_live x.status) refl
    where
      by_call : is_live x.status ≡ true → Marked (v.pair x.slot) (n.pair x.slot) → LiveFact o first v given before x
          → (b : Bool) → (n.pair x.slot).called ≡ b → calls_on o x.calls ≡ []
      by_call live m g false e = g.silent (sym m.called ∙ e)
      by_call live m g true e = absurd (clash (sym standing ∙ rw (live_uncommitted x.status live, live, m.spoiled e)))

      by : (b : Bool) → names x.declarations o ≡ b → (l : Bool) → is_live x.status ≡ l → calls_on o x.calls ≡ []
      by false e l d = f.unlisted e
      by true e false d = let old : given < v.terminal = f.past d e in absurd (omega arith)
      by true e true d =
          let g : LiveFact o first v given before x = f.live d e in
          by_call d (marked given before x above idle d g) g (n.pair x.slot).called refl

  fact_behind : (given before other : ℕ) (x : Transaction) → low ≤ given → lives_in s x ≡ false → other ≡ word
      → Fact o first v given before x → Fact o first n given other x × (word_after o n other x ≡ word)
  fact_behind given before other x above idle related f = rw related (
    record {
      unlisted = f.unlisted;
      past = λ ended named. let old : given < v.terminal = f.past ended named in absurd (omega arith);
      agrees = λ committed. no_calls_agree (calls_on o x.calls) word (standing_silent given before x above idle f (rw committed));
      none = λ live unnamed. bare x.slot (other_slot s x idle live) (f.none live unnamed);
      live = λ live named.
          let g : LiveFact o first v given before x = f.live live named in
          live_behind given before x above (marked given before x above idle live g) g;
    },
    pick_when (λ (k : ℕ). k ≡ word) (stands n x)
        (λ standing. no_calls_replay (calls_on o x.calls) word (standing_silent given before x above idle f standing)) (λ e. refl),
  )

  pub scan_behind : (given before : ℕ) (xs : History) → low ≤ given → count_live s xs ≡ 0
      → Scan o first v given before xs → Scan o first n given word xs × (replayed o n word xs ≡ word)
  scan_behind given before xs above none scan =
      carry o first s v n (λ before other. other ≡ word) low (given + declarers o xs)
      (λ given before other x above below idle related f. fact_behind given before other x above idle related f)
      given before word xs above (omega arith) none refl scan
