-- What the scan finds at the live transaction of an event, on an object that it has declared.
use Prim.Native.Nat.{ℕ, suc, ◌+◌, ◌≤◌}
use mathlib.Core.Bool.{Bool, true, false}
use mathlib.Core.List.{List, ◌∷◌, ◌++◌}
use mathlib.Core.Path.{◌≡◌, refl, sym, ap, ◌∙◌}
use native.Mathlib.Omega.{arith}
use lib.ListN.{get_or}
use Rattle.counters.specs.Sizes.{Size}
use Rattle.counters.specs.Versions.{next, difference}
use Rattle.record_layout.specs.Declarations.{names}
use Rattle.objects.specs.declared.Pair.{Pair}
use Rattle.rules.specs.Tables.{State, object_at, pair_at}
use Rattle.runs.specs.Histories.{History, Transaction, is_live}
use Rattle.runs.specs.Companions.{declarers}
use Rattle.runs.specs.Runs.{Within}
use Rattle.rules.proofs.Picking.{clash}
use Rattle.runs.proofs.Scan.{declares, replayed, LiveFact, declarers_append}
use Rattle.runs.proofs.Exchanged.{Parts, scan_parts}
use Rattle.runs.proofs.Unwrapped.{turn_is, need_is}
use Rattle.runs.proofs.Invariant.{standing, Object}

-- the parts of an object's scan at a transaction
abbrev pub Seen : Size → List ℕ → ℕ → State → ℕ → ℕ → ℕ → History → Transaction → History → Type 0
Seen z words first t q terminal local before own behind = Parts q first (standing z t q terminal local) (get_or words q 0) before own behind

-- the word replayed before it
abbrev pub word_before : Size → List ℕ → State → ℕ → ℕ → ℕ → History → ℕ
word_before z words t q terminal local before = replayed q (standing z t q terminal local) (get_or words q 0) before

-- what is known of the live transaction of an event on an object that it has declared
pub record Acts (z : Size) (words : List ℕ) (first : ℕ) (t : State) (before : History) (own : Transaction) (behind : History) (q : ℕ)
    (old : Object z words first t (before ++ own ∷ behind) q) : Type 0 where
  pub named : names own.declarations q ≡ true
  pub fact : LiveFact q first (standing z t q old.terminal old.local) (declarers q before)
      (word_before z words t q old.terminal old.local before) own
  pub counts : declares q own ≡ 1
  pub last : suc (declarers q before) ≤ declarers q (before ++ own ∷ behind)
  pub near : declarers q before ≤ old.local + 256
  pub far : old.local ≤ declarers q before + 256
  pub wide : declarers q before ≤ old.terminal + 256

module _ (z : Size) (within : Within z) (words : List ℕ) (first : ℕ) (t : State) (before : History) (own : Transaction) (behind : History)
    (live : is_live own.status ≡ true) (q : ℕ) (old : Object z words first t (before ++ own ∷ behind) q) where
  pub seen : Seen z words first t q old.terminal old.local before own behind
  seen = scan_parts q first (standing z t q old.terminal old.local) (get_or words q 0) before own behind old.scan

  -- what is declared is named by its list, and what is named is declared
  pub declared_named : (pair_at z t own.slot q).declared ≡ true → names own.declarations q ≡ true
  declared_named declared = by (names own.declarations q) refl
    where
      by : (b : Bool) → names own.declarations q ≡ b → names own.declarations q ≡ true
      by true e = e
      by false e = absurd (clash (sym declared ∙ ap (λ (p : Pair). p.declared) (seen.fact.none live e)))

  pub named_declared : names own.declarations q ≡ true → (pair_at z t own.slot q).declared ≡ true
  named_declared named = (seen.fact.live live named).declared

  pub acts : declarers q (before ++ own ∷ behind) ≤ old.terminal + z.slots → (pair_at z t own.slot q).declared ≡ true
      → Acts z words first t before own behind q old
  acts wide declared =
      let named : names own.declarations q ≡ true = declared_named declared in
      let fact = seen.fact.live live named in
      let one : declares q own ≡ 1 = rw named in
      let all = declarers_append q before (own ∷ behind) in
      record {
        named = named;
        fact = fact;
        counts = one;
        last = omega (arith, all, one);
        near = omega (arith, all, one, wide, within.slots, old.low);
        far = omega (arith, wide, within.slots, old.high, fact.ahead);
        wide = omega (arith, all, one, wide, within.slots);
      }

-- R8, R9: the turn and the terminal need, in versions counted without wrapping
module _ (z : Size) (words : List ℕ) (first : ℕ) (t : State) (before : History) (own : Transaction) (behind : History) (q : ℕ)
    (old : Object z words first t (before ++ own ∷ behind) q) (a : Acts z words first t before own behind q old) where
  pub at_its_turn : difference (pair_at z t own.slot q).private.0 (object_at t q).local.0 ≡ 1 → old.local ≡ declarers q before
  at_its_turn turn = turn_is first (declarers q before) old.local a.near a.far (rw (a.fact.private, old.local_is) at turn)

  pub at_its_end : next (object_at t q).terminal.0 ≡ (pair_at z t own.slot q).private.0 → declarers q before ≡ old.terminal
  at_its_end need =
      need_is first (declarers q before) old.terminal a.fact.ahead a.wide (rw (a.fact.private, old.terminal_is) at need)
