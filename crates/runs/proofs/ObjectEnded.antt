-- An object after an accepted end of a transaction that declared it: the scan of the history still tells its word and its versions.
use Prim.Native.Nat.{ℕ, suc, ◌+◌, ◌%◌, ◌≤◌}
use mathlib.Core.Bool.{Bool, true, false, not, ◌&&◌}
use mathlib.Core.List.{List, ◌∷◌, ◌++◌}
use mathlib.Core.Logic.{◌≢◌}
use mathlib.Core.Path.{◌≡◌, refl, sym, ap, ◌∙◌}
use native.Mathlib.Omega.{arith}
use lib.Dec.{leb}
use lib.ListN.{get_or}
use borrow.Author.Tests.{leb-true, leb-false, not-true}
use Rattle.answers.specs.Order.{pick}
use Rattle.counters.specs.Sizes.{Size}
use Rattle.counters.specs.Versions.{turnover}
use Rattle.counters.specs.declared.Version.{Version}
use Rattle.objects.specs.Places.{no_pair, turn_of, says_released, settled, restores, spoiled_pair}
use Rattle.objects.specs.declared.Pair.{Pair}
use Rattle.rules.specs.Tables.{State, object_at, live_at, pair_at}
use Rattle.runs.specs.Histories.{History, Transaction, is_live, is_committed, lives_in, with_end, status_of}
use Rattle.runs.specs.Companions.{count_live, declarers}
use Rattle.runs.specs.Runs.{Within}
use Rattle.answers.proofs.Tests.{both_true}
use Rattle.rules.proofs.Picking.{clash, and_false, pick_when}
use Rattle.runs.proofs.Scan.{Standing, declares, word_after, replayed, LiveFact, Fact, Scan, declarers_append}
use Rattle.runs.proofs.Carried.{Keeping, Marked, other_slot, live_uncommitted}
use Rattle.runs.proofs.Exchanged.{exchanged, turned}
use Rattle.runs.proofs.Unwrapped.{released_is}
use Rattle.runs.proofs.Invariant.{standing, Object}
use Rattle.runs.proofs.Acting.{Seen, Acts}

pub ended_status : (rollback : Bool) → is_live (status_of rollback) ≡ false
ended_status true = refl
ended_status false = refl

committed_only : (rollback : Bool) → is_committed (status_of rollback) ≡ true → rollback ≡ false
committed_only true e = sym e
committed_only false e = refl

-- what an end makes of an object that the slot has declared, and of the pairs of other slots
pub record EndsAt (z : Size) (rollback : Bool) (t u : State) (s q : ℕ) : Type 0 where
  pub word : (object_at u q).word ≡ pick (rollback && restores (pair_at z t s q)) (pair_at z t s q).saved (object_at t q).word
  pub global : (object_at u q).global ≡ (object_at t q).global
  pub local : (object_at u q).local ≡ (settled z.slots (pair_at z t s q) (object_at t q)).local
  pub terminal : (object_at u q).terminal ≡ (pair_at z t s q).private
  pub pairs : (r : ℕ) → r ≢ s
      → pair_at z u r q
      ≡ pick ((rollback && restores (pair_at z t s q)) && (live_at t r && (pair_at z t r q).called)) (spoiled_pair (pair_at z t r q)) (pair_at z t r q)

spoiled_marked : (b : Bool) (p : Pair) → b ≡ true → Marked p (pick (b && p.called) (spoiled_pair p) p)
spoiled_marked b p cause = rw cause (by p.called refl)
  where
    by : (c : Bool) → p.called ≡ c → Marked p (pick p.called (spoiled_pair p) p)
    by true e = rw e (record { declared = refl; private = refl; called = refl; spoiled = λ called. refl; clean = λ silent. absurd (clash silent) })
    by false e = rw e (record { declared = refl; private = refl; called = refl; spoiled = λ called. absurd (clash (sym called)); clean = λ silent. refl })

module _ (z : Size) (within : Within z) (words : List ℕ) (first : ℕ) (t u : State) (before : History) (own : Transaction) (behind : History) (q : ℕ)
    (old : Object z words first t (before ++ own ∷ behind) q) (wide : declarers q (before ++ own ∷ behind) ≤ old.terminal + z.slots)
    (live : is_live own.status ≡ true)
    (none_before : count_live own.slot before ≡ 0) (none_behind : count_live own.slot behind ≡ 0)
    (parts : Seen z words first t q old.terminal old.local before own behind)
    (a : Acts z words first t before own behind q old) (due : declarers q before ≡ old.terminal)
    (rollback : Bool) (unspoiled : rollback ≡ false → (pair_at z t own.slot q).spoiled ≡ false) (written : List ℕ)
    (lives : (r : ℕ) → (pair_at z t r q).declared ≡ true → live_at t r ≡ true) (ends : EndsAt z rollback t u own.slot q) where
  abbrev pair : Pair
  pair = pair_at z t own.slot q

  abbrev v : Standing
  v = standing z t q old.terminal old.local

  -- the local version, counted without wrapping
  abbrev let_go_to : ℕ
  let_go_to = pick (leb (suc (declarers q before)) old.local) old.local (suc (declarers q before))

  abbrev n : Standing
  n = standing z u q (suc (declarers q before)) let_go_to

  abbrev next : Transaction
  next = with_end (status_of rollback) written own

  abbrev replayed_before : ℕ
  replayed_before = replayed q v (get_or words q 0) before

  rises : (old.local ≤ let_go_to) × (suc (declarers q before) ≤ let_go_to) × (let_go_to ≤ declarers q (before ++ own ∷ behind))
  rises =
      pick_when (λ (k : ℕ). (old.local ≤ k) × (suc (declarers q before) ≤ k) × (k ≤ declarers q (before ++ own ∷ behind)))
      (leb (suc (declarers q before)) old.local)
      (λ e. (omega arith, leb-true (suc (declarers q before)) old.local e, old.high))
      (λ e. (omega (arith, leb-false (suc (declarers q before)) old.local e), omega arith, a.last))

  released : says_released (turn_of z.slots pair (object_at t q)) ≡ leb (suc (declarers q before)) old.local
  released =
      rw (a.fact.private, old.local_is)
      (released_is z.slots first (declarers q before) old.local within.slots
      (omega (arith, a.last, wide, old.low)) (omega (arith, wide, old.high)))

  local_now : (object_at u q).local.0 ≡ (first + let_go_to) % turnover
  local_now = rw (ends.local, released) (by (leb (suc (declarers q before)) old.local) refl)
    where
      by : (b : Bool) → leb (suc (declarers q before)) old.local ≡ b
          → (pick (leb (suc (declarers q before)) old.local) (object_at t q).local pair.private).0 ≡ (first + let_go_to) % turnover
      by true e = rw e old.local_is
      by false e = rw e a.fact.private

  fact : Fact q first n (declarers q before) replayed_before next
  fact =
      record {
        unlisted = parts.fact.unlisted;
        past = λ over named. omega arith;
        agrees = λ committed. a.fact.agrees (unspoiled (committed_only rollback committed));
        none = λ alive unnamed. absurd (clash (sym alive ∙ ended_status rollback));
        live = λ alive named. absurd (clash (sym alive ∙ ended_status rollback));
      }

  counted : declarers q (before ++ next ∷ behind) ≡ declarers q (before ++ own ∷ behind)
  counted = omega (arith, declarers_append q before (next ∷ behind), declarers_append q before (own ∷ behind))

  -- a pair that is zero stays zero, and before the transaction every declarer has settled
  bare : (r : ℕ) → r ≢ own.slot → pair_at z t r q ≡ no_pair → pair_at z u r q ≡ no_pair
  bare r apart zero = ends.pairs r apart ∙ rw (zero, and_false (live_at t r), and_false (rollback && restores pair))

  keeping : (low high : ℕ) → (high ≤ declarers q before) → Keeping own.slot v n low high
  keeping low high early =
      record {
        grows = omega arith;
        lets_go = rises.0;
        bare = bare;
        ahead = λ given above below ahead. absurd (omega arith);
        same = λ given above below ahead. absurd (omega arith);
      }

  -- the object, once its scan is known
  finished : Scan q first n 0 (get_or words q 0) (before ++ next ∷ behind) × (replayed q n (get_or words q 0) (before ++ next ∷ behind) ≡ (object_at u q).word)
      → Object z words first u (before ++ next ∷ behind) q
  finished scanned =
      record {
        terminal = suc (declarers q before);
        local = let_go_to;
        scan = scanned.0;
        word_is = sym scanned.1;
        global_is =
            ap (λ (version : Version). version.0) ends.global ∙ old.global_is ∙ ap (λ (k : ℕ). (first + k) % turnover) (sym counted);
        local_is = local_now;
        terminal_is = ap (λ (version : Version). version.0) ends.terminal ∙ a.fact.private;
        low = rises.1;
        high = omega (arith, rises.2, counted);
      }

  -- nothing is put back: the word stays
  stays : rollback && restores pair ≡ false → Object z words first u (before ++ next ∷ behind) q
  stays none =
      let scanned = exchanged q first own.slot v n (get_or words q 0) before own next behind refl none_before none_behind
      (keeping 0 (declarers q before) (omega arith)) parts fact (by rollback refl)
      (record {
        grows = omega arith;
        lets_go = rises.0;
        bare = bare;
        ahead = λ given above below ahead. omega (arith, a.counts);
        same = λ given above below ahead r apart. ends.pairs r apart ∙ rw none;
      }) in
      finished (scanned.0, scanned.1 ∙ sym old.word_is ∙ sym (ends.word ∙ rw none))
    where
      -- a spoiled transaction's calls did not stand, and one that has not called has none
      not_standing : (c : Bool) → pair.called ≡ c → (d : Bool) → pair.spoiled ≡ d → restores pair ≡ false
          → replayed_before ≡ word_after q v replayed_before own
      not_standing c e true f idle = rw (live_uncommitted own.status live, live, f)
      not_standing false e false f idle = rw (live_uncommitted own.status live, live, f, a.fact.silent e)
      not_standing true e false f idle = absurd (clash (sym (rw (a.fact.declared, e, f)) ∙ idle))

      by : (b : Bool) → rollback ≡ b → word_after q n replayed_before next ≡ word_after q v replayed_before own
      by false e = rw (e, live_uncommitted own.status live, live, unspoiled e)
      by true e = rw e (not_standing pair.called refl pair.spoiled refl (rw e at none))

  -- the word is put back: whoever called behind is spoiled
  put_back : rollback && restores pair ≡ true → Object z words first u (before ++ next ∷ behind) q
  put_back both = finished (scanned.0, scanned.1 ∙ rolled_back ∙ sym (ends.word ∙ rw both saved))
    where
      back : (rollback ≡ true) × (restores pair ≡ true)
      back = both_true rollback (restores pair) both

      called : (pair.called ≡ true) × (not pair.spoiled ≡ true)
      called = both_true pair.called (not pair.spoiled) (both_true pair.declared (pair.called && not pair.spoiled) back.1).1

      saved : pair.saved ≡ replayed_before
      saved = a.fact.saved (not-true pair.spoiled called.1) called.0

      rolled_back : word_after q n replayed_before next ≡ replayed_before
      rolled_back = rw back.0

      marked : (given earlier : ℕ) (x : Transaction) → declarers q before + declares q own ≤ given → lives_in own.slot x ≡ false → is_live x.status ≡ true
          → LiveFact q first v given earlier x → Marked (v.pair x.slot) (n.pair x.slot)
      marked given earlier x above idle alive f =
          rw (ends.pairs x.slot (other_slot own.slot x idle alive), both)
          (spoiled_marked (live_at t x.slot) (pair_at z t x.slot q) (lives x.slot f.declared))

      scanned : Scan q first n 0 (get_or words q 0) (before ++ next ∷ behind)
          × (replayed q n (get_or words q 0) (before ++ next ∷ behind) ≡ word_after q n replayed_before next)
      scanned =
          turned q first own.slot v n (get_or words q 0) before own next behind refl none_before none_behind
          (keeping 0 (declarers q before) (omega arith)) parts fact (omega (arith, a.counts)) (omega (arith, a.counts)) marked

  pub object_ended : Object z words first u (before ++ next ∷ behind) q
  object_ended = by (rollback && restores pair) refl
    where
      by : (b : Bool) → rollback && restores pair ≡ b → Object z words first u (before ++ next ∷ behind) q
      by true e = put_back e
      by false e = stays e
