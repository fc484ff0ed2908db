-- The committed transactions alone give the answers they gave, and where none is live, the words: from what every event of a run keeps.
use Prim.Native.Nat.{ℕ, ◌+◌, ◌<◌, ◌≤◌}
use mathlib.Core.Bool.{Bool, true, false}
use mathlib.Core.List.{List, [], ◌∷◌}
use mathlib.Core.Path.{◌≡◌, refl, sym, subst, ◌∙◌}
use native.Mathlib.Omega.{arith}
use lib.ListN.{length, get_or}
use borrow.Author.Tests.{eq-eqb}
use Rattle.answers.specs.Order.{pick}
use Rattle.counters.specs.Sizes.{Size}
use Rattle.record_layout.specs.Declarations.{names}
use Rattle.runs.specs.Histories.{History, Status, Live, Committed, RolledBack, is_live, is_committed}
use Rattle.runs.specs.LoneRun.{committed_calls}
use Rattle.runs.specs.Runs.{Run}
use Rattle.runs.specs.Demands.{AnswersAlone, WordsAlone, any_live}
use Rattle.runs.specs.Companions.{count_live}
use Rattle.rules.proofs.Picking.{clash, pick_same}
use Rattle.runs.proofs.OneObject.{calls_on, replay, Agree, calls_append, replay_append, agree_append}
use Rattle.runs.proofs.Alone.{Inside, inside_append, lone_answers_lem, words_are}
use Rattle.runs.proofs.Scan.{Standing, declares, stands, word_after, replayed, Scan}
use Rattle.runs.proofs.Carried.{committed_ended}
use Rattle.runs.proofs.Invariant.{standing, Object, Proper, All, Invariant}

module _ (o first : ℕ) (v : Standing) where
  -- whoever declares the object from the terminal version on has not committed, so no committed call is on it
  silent_behind : (given word : ℕ) (xs : History) → v.terminal ≤ given → Scan o first v given word xs → calls_on o (committed_calls xs) ≡ []
  silent_behind given word [] above scan = refl
  silent_behind given word (x ∷ xs) above scan =
      by (is_committed x.status) refl (silent_behind (given + declares o x) (word_after o v word x) xs (omega arith) scan.1)
    where
      silent : is_committed x.status ≡ true → (named : Bool) → names x.declarations o ≡ named → calls_on o x.calls ≡ []
      silent committed true e =
          let past : given < v.terminal = scan.0.past (committed_ended x.status committed) e in
          absurd (omega arith)
      silent committed false e = scan.0.unlisted e

      by : (committed : Bool) → is_committed x.status ≡ committed → calls_on o (committed_calls xs) ≡ [] → calls_on o (committed_calls (x ∷ xs)) ≡ []
      by true e rest = rw e (calls_append o x.calls (committed_calls xs) ∙ rw (silent e (names x.declarations o) refl, rest))
      by false e rest = rw e rest

  -- the calls of the committed transactions agree with the word replayed so far
  agrees_along : (given word : ℕ) (xs : History) → Scan o first v given word xs → Agree (calls_on o (committed_calls xs)) word
  agrees_along given word [] scan = tt
  agrees_along given word (x ∷ xs) scan = by x.status refl (agrees_along (given + declares o x) (word_after o v word x) xs scan.1)
    where
      behind_live_lem : is_live x.status ≡ true → (named : Bool) → names x.declarations o ≡ named
          → Agree (calls_on o (committed_calls xs)) (word_after o v word x) → Agree (calls_on o (committed_calls xs)) word
      behind_live_lem live true e rest =
          let ahead : v.terminal ≤ given = (scan.0.live live e).ahead in
          rw (silent_behind (given + declares o x) (word_after o v word x) xs (omega arith) scan.1) tt
      behind_live_lem live false e rest = subst (Agree (calls_on o (committed_calls xs))) (rw (scan.0.unlisted e) (pick_same (stands v x) word)) rest

      by : (status : Status) → x.status ≡ status → Agree (calls_on o (committed_calls xs)) (word_after o v word x)
          → Agree (calls_on o (committed_calls (x ∷ xs))) word
      by Live e rest = rw e (behind_live_lem (rw e) (names x.declarations o) refl rest)
      by Committed e rest =
          rw (e, calls_append o x.calls (committed_calls xs))
          (agree_append (calls_on o x.calls) (calls_on o (committed_calls xs)) word (scan.0.agrees (rw e)) (rw e at rest))
      by RolledBack e rest = rw e (rw e at rest)

module _ (o : ℕ) (v : Standing) where
  -- where none is live, the word is that of the committed transactions
  replayed_committed : (word : ℕ) (xs : History) → any_live xs ≡ false → replayed o v word xs ≡ replay (calls_on o (committed_calls xs)) word
  replayed_committed word [] none = refl
  replayed_committed word (x ∷ xs) none = by x.status refl (replayed_committed (word_after o v word x) xs)
    where
      by : (status : Status) → x.status ≡ status
          → (any_live xs ≡ false → replayed o v (word_after o v word x) xs ≡ replay (calls_on o (committed_calls xs)) (word_after o v word x))
          → replayed o v word (x ∷ xs) ≡ replay (calls_on o (committed_calls (x ∷ xs))) word
      by Live e rest = absurd (clash (rw e at none))
      by Committed e rest =
          rest (rw e at none)
          ∙ rw (e, calls_append o x.calls (committed_calls xs)) (sym (replay_append (calls_on o x.calls) (calls_on o (committed_calls xs)) word))
      by RolledBack e rest = rest (rw e at none) ∙ rw e

-- a history that counts no live transaction of any slot has none
none_live : (xs : History) → ((s : ℕ) → count_live s xs ≡ 0) → any_live xs ≡ false
none_live [] none = refl
none_live (x ∷ xs) none = by (is_live x.status) refl (none_live xs)
  where
    by : (live : Bool) → is_live x.status ≡ live → (((s : ℕ) → count_live s xs ≡ 0) → any_live xs ≡ false) → any_live (x ∷ xs) ≡ false
    by true e rest =
        let own : 1 + count_live x.slot xs ≡ 0 = rw (e, eq-eqb x.slot x.slot refl) at (none x.slot) in
        absurd (omega arith)
    by false e rest = rw e (rest (λ s. let all : 0 + count_live s xs ≡ 0 = rw e at (none s) in omega arith))

-- every committed call is on an object there is
committed_inside : (z : Size) (xs : History) → All (Proper z) xs → Inside z.objects (committed_calls xs)
committed_inside z [] proper = tt
committed_inside z (x ∷ xs) proper =
    inside_append z.objects (pick (is_committed x.status) x.calls []) (committed_calls xs) (own (is_committed x.status))
    (committed_inside z xs proper.1)
  where
    own : (committed : Bool) → Inside z.objects (pick committed x.calls [])
    own true = proper.0.calls
    own false = tt

module _ {z : Size} {words : List ℕ} {first : ℕ} {run : Run} (all : length words ≡ z.objects) (inv : Invariant z words first run) where
  inside : Inside (length words) (committed_calls run.history)
  inside = rw all (committed_inside z run.history inv.proper)

  pub answers_alone : AnswersAlone words run
  answers_alone =
      lone_answers_lem words (committed_calls run.history) inside
      (λ o below.
      let object : Object z words first run.tables run.history o = inv.objects o (rw (sym all) below) in
      agrees_along o first (standing z run.tables o object.terminal object.local) 0 (get_or words o 0) run.history object.scan)

  pub words_alone : WordsAlone words run
  words_alone idle =
      words_are words (committed_calls run.history) run.tables.objects (inv.sized.objects ∙ sym all) inside
      (λ o below.
      let object : Object z words first run.tables run.history o = inv.objects o (rw (sym all) below) in
      object.word_is
      ∙ replayed_committed o (standing z run.tables o object.terminal object.local) (get_or words o 0) run.history
      (none_live run.history (λ s. inv.live s ∙ rw (idle s))))
