-- What an accepted commit or rollback leaves as it was, and what it changes, place by place.
use Prim.Native.Nat.{ℕ, ◌<◌}
use mathlib.Core.Bool.{Bool, true, false, not, ◌&&◌, ◌||◌}
use mathlib.Core.List.{List}
use mathlib.Core.Logic.{◌≢◌}
use mathlib.Core.Path.{◌≡◌, refl, sym, ap, ◌∙◌}
use borrow.Author.Tests.{eq-eqb, ne_eqb}
use Rattle.answers.specs.Order.{pick}
use Rattle.counters.specs.Sizes.{Size}
use Rattle.objects.specs.Places.{no_pair, settled, restores, restored, spoiled_pair}
use Rattle.objects.specs.declared.Object.{Object}
use Rattle.objects.specs.declared.Pair.{Pair}
use Rattle.rules.specs.Tables.{State, object_at, live_at, pair_at}
use Rattle.rules.specs.Steps.{end_step}
use Rattle.rules.proofs.Picking.{or_true, or_false, pick_when, pick_seen}
use Rattle.rules.proofs.Stores.{Sized}
use Rattle.rules.proofs.Exactly.{end_comes}
use Rattle.rules.proofs.Accepted.{end_accepted}
use Rattle.rules.proofs.Ended.{Ended, ended_at, end_effect_lem}

-- both ends: the pairs of the slot are cleared and it is no longer live; on an object that it did not declare nothing changes;
-- on one that it declared global stays, terminal becomes private and local is as `settled` says
pub record EndLeaves (z : Size) (s : ℕ) (t u : State) : Type 0 where
  pub own : (q : ℕ) → q < z.objects → pair_at z u s q ≡ no_pair
  pub own_live : live_at u s ≡ false
  pub live : (r : ℕ) → r ≢ s → live_at u r ≡ live_at t r
  pub undeclared : (q : ℕ) → q < z.objects → (pair_at z t s q).declared ≡ false → object_at u q ≡ object_at t q
  pub global : (q : ℕ) → q < z.objects → (object_at u q).global ≡ (object_at t q).global
  pub terminal : (q : ℕ) → q < z.objects → (pair_at z t s q).declared ≡ true → (object_at u q).terminal ≡ (pair_at z t s q).private
  pub local : (q : ℕ) → q < z.objects → (pair_at z t s q).declared ≡ true
      → (object_at u q).local ≡ (settled z.slots (pair_at z t s q) (object_at t q)).local

-- a commit: no pair of another slot and no word
pub record CommitLeaves (z : Size) (s : ℕ) (t u : State) : Type 0 where
  pub end : EndLeaves z s t u
  pub pairs : (r q : ℕ) → r < z.slots → q < z.objects → r ≢ s → pair_at z u r q ≡ pair_at z t r q
  pub word : (q : ℕ) → q < z.objects → (object_at u q).word ≡ (object_at t q).word

-- of a pair at most the spoiled mark changes, from false to true where there is a cause
pub record AtMostSpoiled (cause : Bool) (before after : Pair) : Type 0 where
  pub declared : after.declared ≡ before.declared
  pub supremum : after.supremum ≡ before.supremum
  pub private : after.private ≡ before.private
  pub count : after.count ≡ before.count
  pub called : after.called ≡ before.called
  pub saved : after.saved ≡ before.saved
  pub spoiled : after.spoiled ≡ before.spoiled || cause

-- a rollback: of another slot's pairs at most the spoiled mark, on a live slot that has called an object that is restored;
-- the word is the saved word where the object is restored
pub record RollbackLeaves (z : Size) (s : ℕ) (t u : State) : Type 0 where
  pub end : EndLeaves z s t u
  pub pairs : (r q : ℕ) → r < z.slots → q < z.objects → r ≢ s
      → AtMostSpoiled (restores (pair_at z t s q) && (live_at t r && (pair_at z t r q).called)) (pair_at z t r q) (pair_at z u r q)
  pub word : (q : ℕ) → q < z.objects
      → (object_at u q).word ≡ pick (restores (pair_at z t s q)) (pair_at z t s q).saved (object_at t q).word

local_alike : (slots : ℕ) (pair : Pair) (object : Object) (back : Bool)
    → (settled slots pair (pick back (restored pair object) object)).local ≡ (settled slots pair object).local
local_alike slots pair object true = refl
local_alike slots pair object false = refl

-- what an end makes of an object, version by version, whether its word is put back or not
module _ (z : Size) (rollback : Bool) (pair : Pair) (object : Object) where
  ended_global : (ended_at z rollback pair object).global ≡ object.global
  ended_global =
      pick_when (λ (x : Object). x.global ≡ object.global) pair.declared
      (λ e. pick_when (λ (x : Object). x.global ≡ object.global) (rollback && restores pair) (λ e. refl) (λ e. refl)) (λ e. refl)

  ended_terminal : pair.declared ≡ true → (ended_at z rollback pair object).terminal ≡ pair.private
  ended_terminal declared = rw declared

  ended_local : pair.declared ≡ true → (ended_at z rollback pair object).local ≡ (settled z.slots pair object).local
  ended_local declared =
      ap (λ (d : Bool). (pick d (settled z.slots pair (pick (rollback && restores pair) (restored pair object) object)) object).local) declared
      ∙ local_alike z.slots pair object (rollback && restores pair)

committed_word : (z : Size) (pair : Pair) (object : Object) → (ended_at z false pair object).word ≡ object.word
committed_word z pair object = pick_when (λ (x : Object). x.word ≡ object.word) pair.declared (λ e. refl) (λ e. refl)

rolled_back_word : (z : Size) (pair : Pair) (object : Object) → (ended_at z true pair object).word ≡ pick (restores pair) pair.saved object.word
rolled_back_word z pair object = by pair.declared refl
  where
    by : (d : Bool) → pair.declared ≡ d → (ended_at z true pair object).word ≡ pick (restores pair) pair.saved object.word
    by true e = rw e (pick_seen (λ (x : Object). x.word) (pair.called && not pair.spoiled) (restored pair object) object)
    by false e = rw e

-- of either end
pub ended_word : (z : Size) (rollback : Bool) (pair : Pair) (object : Object)
    → (ended_at z rollback pair object).word ≡ pick (rollback && restores pair) pair.saved object.word
ended_word z false pair object = committed_word z pair object
ended_word z true pair object = rolled_back_word z pair object

spoiled_at_most : (cause : Bool) (pair : Pair) → AtMostSpoiled cause pair (pick cause (spoiled_pair pair) pair)
spoiled_at_most true pair =
    record { declared = refl; supremum = refl; private = refl; count = refl; called = refl; saved = refl; spoiled = sym (or_true pair.spoiled) }
spoiled_at_most false pair =
    record { declared = refl; supremum = refl; private = refl; count = refl; called = refl; saved = refl; spoiled = sym (or_false pair.spoiled) }

module _ (z : Size) (s : ℕ) (slot : s < z.slots) (t u : State) where
  pub ended_leaves : (rollback : Bool) → Ended z rollback s t u → EndLeaves z s t u
  ended_leaves rollback ends =
      record {
        own = λ q below. ends.pair s q slot below ∙ rw (eq-eqb s s refl);
        own_live = ends.live s ∙ rw (eq-eqb s s refl);
        live = λ r other. ends.live r ∙ rw (ne_eqb r s other);
        undeclared = λ q below none. ends.object q below ∙ rw none;
        global = λ q below. rw (ends.object q below) (ended_global z rollback (pair_at z t s q) (object_at t q));
        terminal = λ q below declared. rw (ends.object q below) (ended_terminal z rollback (pair_at z t s q) (object_at t q) declared);
        local = λ q below declared. rw (ends.object q below) (ended_local z rollback (pair_at z t s q) (object_at t q) declared);
      }

  committed_leaves : Ended z false s t u → CommitLeaves z s t u
  committed_leaves ends =
      record {
        end = ended_leaves false ends;
        pairs = λ r q inside below other. ends.pair r q inside below ∙ rw (ne_eqb r s other);
        word = λ q below. rw (ends.object q below) (committed_word z (pair_at z t s q) (object_at t q));
      }

  rolled_back_leaves : Ended z true s t u → RollbackLeaves z s t u
  rolled_back_leaves ends =
      record {
        end = ended_leaves true ends;
        pairs =
            λ r q inside below other.
            rw (ends.pair r q inside below, ne_eqb r s other)
            (spoiled_at_most (restores (pair_at z t s q) && (live_at t r && (pair_at z t r q).called)) (pair_at z t r q));
        word = λ q below. rw (ends.object q below) (rolled_back_word z (pair_at z t s q) (object_at t q));
      }

module _ (z : Size) (t : State) (sized : Sized z t) (s tick : ℕ) (buffer : List ℕ) where
  -- an accepted end has its effect, place by place
  pub end_places : (rollback : Bool) → (end_step z rollback t s tick buffer).reply.number ≡ 0
      → Ended z rollback s t (end_step z rollback t s tick buffer).tables
  end_places rollback done =
      rw (end_comes z t rollback s tick buffer done)
      (end_effect_lem z t sized rollback s (end_accepted z t rollback s tick buffer done).slot)

  -- what an accepted commit and an accepted rollback leave
  pub commit_leaves : (end_step z false t s tick buffer).reply.number ≡ 0 → CommitLeaves z s t (end_step z false t s tick buffer).tables
  commit_leaves done =
      committed_leaves z s (end_accepted z t false s tick buffer done).slot t (end_step z false t s tick buffer).tables (end_places false done)

  pub rollback_leaves : (end_step z true t s tick buffer).reply.number ≡ 0 → RollbackLeaves z s t (end_step z true t s tick buffer).tables
  rollback_leaves done =
      rolled_back_leaves z s (end_accepted z t true s tick buffer done).slot t (end_step z true t s tick buffer).tables (end_places true done)
