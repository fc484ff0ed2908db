-- An object after an accepted call of it or an accepted release of it: the scan of the history still tells its word and its versions.
use Prim.Native.Nat.{ℕ, suc, ◌+◌, ◌%◌, ◌≤◌}
use mathlib.Core.Bool.{Bool, true, false}
use mathlib.Core.List.{List, [], ◌∷◌, ◌++◌}
use mathlib.Core.Logic.{◌≢◌}
use mathlib.Core.Path.{◌≡◌, refl, sym, ap, ◌∙◌}
use native.Mathlib.Omega.{arith}
use lib.ListN.{get_or}
use borrow.Author.Tests.{eq-eqb}
use Rattle.answers.specs.Order.{pick}
use Rattle.counters.specs.Sizes.{Size}
use Rattle.counters.specs.Versions.{turnover}
use Rattle.kinds.specs.Kinds.{acted}
use Rattle.objects.specs.Places.{reaches, called_object, called_pair, let_go}
use Rattle.rules.specs.Tables.{State, object_at, pair_at}
use Rattle.runs.specs.Histories.{History, Transaction, Call, is_live, lives_in, with_call}
use Rattle.runs.specs.Companions.{count_live, declarers}
use Rattle.rules.proofs.Picking.{clash, pick_when}
use Rattle.runs.proofs.OneObject.{calls_on, replay, calls_append, replay_append, agree_append}
use Rattle.runs.proofs.Scan.{Standing, declares, word_after, replayed, LiveFact, Fact, declarers_append, replayed_append}
use Rattle.runs.proofs.Carried.{Keeping, Marked, other_slot, live_uncommitted, scan_behind}
use Rattle.runs.proofs.Exchanged.{exchanged, turned}
use Rattle.runs.proofs.Invariant.{standing, Object}
use Rattle.runs.proofs.Acting.{Seen, Acts}

-- where no pair of another slot has changed and no version has ended
pub keeping_all : (s : ℕ) (v n : Standing) (low high : ℕ) → ((r : ℕ) → r ≢ s → n.pair r ≡ v.pair r) → n.terminal ≡ v.terminal → v.local ≤ n.local
    → Keeping s v n low high
keeping_all s v n low high same ended lets_go =
    record {
      grows = omega arith;
      lets_go = lets_go;
      bare = λ r apart zero. same r apart ∙ zero;
      ahead = λ given above below ahead. omega arith;
      same = λ given above below ahead r apart. same r apart;
    }

module _ (z : Size) (words : List ℕ) (first : ℕ) (t u : State) (before : History) (own : Transaction) (behind : History) (q : ℕ)
    (old : Object z words first t (before ++ own ∷ behind) q) (live : is_live own.status ≡ true)
    (none_before : count_live own.slot before ≡ 0) (none_behind : count_live own.slot behind ≡ 0)
    (parts : Seen z words first t q old.terminal old.local before own behind)
    (a : Acts z words first t before own behind q old) (turn : old.local ≡ declarers q before) where
  -- released: its version is let go
  pub object_released : ((r : ℕ) → pair_at z u r q ≡ pair_at z t r q) → object_at u q ≡ let_go (pair_at z t own.slot q).private (object_at t q)
      → Object z words first u (before ++ own ∷ behind) q
  object_released same object =
      let scanned = exchanged q first own.slot v n word before own own behind refl none_before none_behind
      (keeping_all own.slot v n 0 (declarers q before) (λ r apart. same r) refl (omega arith)) parts fact
      (rw (same own.slot))
      (keeping_all own.slot v n (declarers q before + declares q own) (declarers q before + declares q own + declarers q behind)
      (λ r apart. same r) refl (omega arith)) in
      record {
        terminal = old.terminal;
        local = suc (declarers q before);
        scan = scanned.0;
        word_is = rw object (old.word_is ∙ sym scanned.1);
        global_is = rw object old.global_is;
        local_is = rw object a.fact.private;
        terminal_is = rw object old.terminal_is;
        low = omega (arith, old.low);
        high = a.last;
      }
    where
      v : Standing
      v = standing z t q old.terminal old.local

      n : Standing
      n = standing z u q old.terminal (suc (declarers q before))

      word : ℕ
      word = get_or words q 0

      f : LiveFact q first v (declarers q before) (replayed q v word before) own
      f = a.fact

      fact : Fact q first n (declarers q before) (replayed q v word before) own
      fact =
          record {
            unlisted = parts.fact.unlisted;
            past = λ ended named. absurd (clash (sym live ∙ ended));
            agrees = parts.fact.agrees;
            none = λ lives unnamed. same own.slot ∙ parts.fact.none lives unnamed;
            live =
                λ lives named. record {
                  declared = rw (same own.slot) f.declared;
                  private = rw (same own.slot) f.private;
                  ahead = f.ahead;
                  turned = λ called. omega arith;
                  silent = rw (same own.slot) f.silent;
                  clean = rw (same own.slot) f.clean;
                  agrees = rw (same own.slot) f.agrees;
                  saved = rw (same own.slot) f.saved;
                };
          }

  -- called: the transaction has one call more, with the answer that it gave
  module _ (kind argument : ℕ) (unspoiled : (pair_at z t own.slot q).spoiled ≡ false)
      (same : (r : ℕ) → r ≢ own.slot → pair_at z u r q ≡ pair_at z t r q)
      (pair : pair_at z u own.slot q ≡ called_pair (pair_at z t own.slot q) (object_at t q))
      (object : object_at u q ≡ called_object (acted kind (object_at t q).word argument).word (pair_at z t own.slot q) (object_at t q)) where
    abbrev call : Call
    call = record { object = q; kind = kind; argument = argument; answer = (acted kind (object_at t q).word argument).answer }

    abbrev v : Standing
    v = standing z t q old.terminal old.local

    -- the local version, counted without wrapping
    abbrev let_go_to : ℕ
    let_go_to = pick (reaches (pair_at z t own.slot q)) (suc (declarers q before)) old.local

    abbrev n : Standing
    n = standing z u q old.terminal let_go_to

    abbrev replayed_before : ℕ
    replayed_before = replayed q v (get_or words q 0) before

    rises : (old.local ≤ let_go_to) × (let_go_to ≤ suc (declarers q before))
    rises =
        pick_when (λ (k : ℕ). (old.local ≤ k) × (k ≤ suc (declarers q before))) (reaches (pair_at z t own.slot q))
        (λ e. (omega arith, omega arith)) (λ e. (omega arith, omega arith))

    -- nobody behind has called the object
    uncalled : (m : Standing) → ((r : ℕ) → r ≢ own.slot → m.pair r ≡ v.pair r) → (given earlier : ℕ) (x : Transaction)
        → declarers q before + declares q own ≤ given → lives_in own.slot x ≡ false → is_live x.status ≡ true
        → LiveFact q first v given earlier x → Marked (v.pair x.slot) (m.pair x.slot)
    uncalled m alike given earlier x above idle lives f =
        rw (alike x.slot (other_slot own.slot x idle lives))
        (record {
          declared = refl;
          private = refl;
          called = refl;
          spoiled = λ called. let let_go_lem : given ≤ old.local = f.turned called in absurd (omega (arith, a.counts));
          clean = λ silent. refl;
        })

    own_stands : word_after q v replayed_before own ≡ replay (calls_on q own.calls) replayed_before
    own_stands = rw (live_uncommitted own.status live, live, unspoiled)

    -- so the object's word is the one that its own calls leave
    word_now : (object_at t q).word ≡ replay (calls_on q own.calls) replayed_before
    word_now =
        old.word_is
        ∙ replayed_append q first v (get_or words q 0) before (own ∷ behind)
        ∙ (scan_behind q first own.slot v v (declarers q before + declares q own) (word_after q v replayed_before own)
        (omega (arith, a.fact.ahead)) (omega (arith, a.fact.ahead)) (omega arith) (λ r apart zero. zero) (uncalled v (λ r apart. refl))
        (declarers q before + declares q own) (word_after q v replayed_before own) behind (omega arith) none_behind parts.behind_scan).1
        ∙ own_stands

    calls_now : calls_on q (own.calls ++ call ∷ []) ≡ calls_on q own.calls ++ call ∷ []
    calls_now = calls_append q own.calls (call ∷ []) ∙ rw (eq-eqb q q refl)

    saved_now : (called_pair (pair_at z t own.slot q) (object_at t q)).saved ≡ replayed_before
    saved_now = by (pair_at z t own.slot q).called refl
      where
        by : (b : Bool) → (pair_at z t own.slot q).called ≡ b → (called_pair (pair_at z t own.slot q) (object_at t q)).saved ≡ replayed_before
        by true e = rw e (a.fact.saved unspoiled e)
        by false e = rw e (word_now ∙ rw (a.fact.silent e))

    fact : Fact q first n (declarers q before) replayed_before (with_call call own)
    fact =
        record {
          unlisted = λ unnamed. absurd (clash (sym a.named ∙ unnamed));
          past = λ ended named. absurd (clash (sym live ∙ ended));
          agrees = λ committed. absurd (clash (sym committed ∙ live_uncommitted own.status live));
          none = λ lives unnamed. absurd (clash (sym a.named ∙ unnamed));
          live =
              λ lives named. record {
                declared = rw pair a.fact.declared;
                private = rw pair a.fact.private;
                ahead = a.fact.ahead;
                turned = λ called. omega (arith, rises.0);
                silent = rw pair (λ e. absurd (clash e));
                clean = rw pair (λ e. absurd (clash e));
                agrees =
                    λ clean. rw calls_now
                    (agree_append (calls_on q own.calls) (call ∷ []) replayed_before (a.fact.agrees unspoiled) (rw (← word_now) (refl, tt)));
                saved = rw pair (λ clean called. saved_now);
              };
        }

    word_after_lem : word_after q n replayed_before (with_call call own) ≡ (acted kind (object_at t q).word argument).word
    word_after_lem =
        rw (live_uncommitted own.status live, live, pair, unspoiled, calls_now)
        (replay_append (calls_on q own.calls) (call ∷ []) replayed_before
        ∙ ap (λ (k : ℕ). (acted kind k argument).word) (sym word_now))

    pub object_called : Object z words first u (before ++ with_call call own ∷ behind) q
    object_called =
        let scanned = turned q first own.slot v n (get_or words q 0) before own (with_call call own) behind refl none_before none_behind
        (keeping_all own.slot v n 0 (declarers q before) same refl rises.0) parts fact
        (omega (arith, a.fact.ahead)) (omega (arith, a.fact.ahead)) (uncalled n same) in
        record {
          terminal = old.terminal;
          local = let_go_to;
          scan = scanned.0;
          word_is = rw object (sym (scanned.1 ∙ word_after_lem));
          global_is = rw object (old.global_is ∙ ap (λ (k : ℕ). (first + k) % turnover) (sym counted));
          local_is = rw object local_now;
          terminal_is = rw object old.terminal_is;
          low = omega (arith, old.low, rises.0);
          high = omega (arith, rises.1, a.last, counted);
        }
      where
        counted : declarers q (before ++ with_call call own ∷ behind) ≡ declarers q (before ++ own ∷ behind)
        counted = omega (arith, declarers_append q before (with_call call own ∷ behind), declarers_append q before (own ∷ behind))

        local_now : (pick (reaches (pair_at z t own.slot q)) (pair_at z t own.slot q).private (object_at t q).local).0 ≡ (first + let_go_to) % turnover
        local_now = by (reaches (pair_at z t own.slot q)) refl
          where
            by : (b : Bool) → reaches (pair_at z t own.slot q) ≡ b
                → (pick (reaches (pair_at z t own.slot q)) (pair_at z t own.slot q).private (object_at t q).local).0 ≡ (first + let_go_to) % turnover
            by true e = rw e a.fact.private
            by false e = rw e old.local_is
