-- What an accepted start, call or release leaves as it was, place by place.
use Prim.Native.Nat.{ℕ, ◌<◌}
use mathlib.Core.Bool.{Bool, true, false, ◌&&◌}
use mathlib.Core.List.{List}
use mathlib.Core.Logic.{◌≢◌}
use mathlib.Core.Path.{◌≡◌, refl, ◌∙◌}
use lib.Dec.{eqb}
use borrow.Author.Tests.{eqb-true, eq-eqb, ne_eqb}
use Rattle.counters.specs.Sizes.{Size}
use Rattle.record_layout.specs.Declarations.{Declaration, declarations_of, names}
use Rattle.objects.specs.Places.{no_pair}
use Rattle.objects.specs.declared.Object.{Object}
use Rattle.rules.specs.Tables.{State, object_at, live_at, pair_at}
use Rattle.rules.specs.Steps.{start_step, call_step, release_step}
use Rattle.answers.proofs.Tests.{both_true}
use Rattle.rules.proofs.Picking.{pick_when}
use Rattle.rules.proofs.Stores.{Sized}
use Rattle.rules.proofs.Exactly.{start_comes, call_comes, release_comes}
use Rattle.rules.proofs.Accepted.{StartFits, ReleaseFits, start_accepted, call_accepted, release_accepted}
use Rattle.rules.proofs.Called.{Called, GaveWay, call_effect_lem, release_effect_lem}
use Rattle.rules.proofs.Started.{Started, start_effect_lem}

-- a start: no pair of another slot, no object that it does not declare, of those declared only global, no live mark but its own;
-- and the slot is live with all its other pairs zero
pub record StartLeaves (z : Size) (s : ℕ) (declarations : List Declaration) (t u : State) : Type 0 where
  pub pairs : (r q : ℕ) → q < z.objects → r ≢ s → pair_at z u r q ≡ pair_at z t r q
  pub zero : (q : ℕ) → q < z.objects → names declarations q ≡ false → pair_at z u s q ≡ no_pair
  pub objects : (q : ℕ) → names declarations q ≡ false → object_at u q ≡ object_at t q
  pub word : (q : ℕ) → (object_at u q).word ≡ (object_at t q).word
  pub local : (q : ℕ) → (object_at u q).local ≡ (object_at t q).local
  pub terminal : (q : ℕ) → (object_at u q).terminal ≡ (object_at t q).terminal
  pub own_live : live_at u s ≡ true
  pub live : (r : ℕ) → r ≢ s → live_at u r ≡ live_at t r

-- a call on (s, o): no pair but (s, o), no object but o, of this neither global nor terminal, no live mark
pub record CallLeaves (z : Size) (s o : ℕ) (t u : State) : Type 0 where
  pub pairs : (r q : ℕ) → q < z.objects → ((r ≡ s) × (q ≡ o) → ⊥) → pair_at z u r q ≡ pair_at z t r q
  pub objects : (q : ℕ) → q ≢ o → object_at u q ≡ object_at t q
  pub global : (object_at u o).global ≡ (object_at t o).global
  pub terminal : (object_at u o).terminal ≡ (object_at t o).terminal
  pub live : u.live ≡ t.live

-- a release of o: all but the local version of o
pub record ReleaseLeaves (o : ℕ) (t u : State) : Type 0 where
  pub pairs : u.pairs ≡ t.pairs
  pub objects : (q : ℕ) → q ≢ o → object_at u q ≡ object_at t q
  pub word : (object_at u o).word ≡ (object_at t o).word
  pub global : (object_at u o).global ≡ (object_at t o).global
  pub terminal : (object_at u o).terminal ≡ (object_at t o).terminal
  pub live : u.live ≡ t.live

started_leaves : (z : Size) (s : ℕ) (declarations : List Declaration) (t u : State) → Started z s declarations t u → StartLeaves z s declarations t u
started_leaves z s declarations t u started =
    record {
      pairs = λ r q below other. started.pair r q below ∙ rw (ne_eqb r s other);
      zero = λ q below unnamed. started.pair s q below ∙ rw (eq-eqb s s refl, unnamed);
      objects = λ q unnamed. started.object q ∙ rw unnamed;
      word = λ q. rw (started.object q) (pick_when (λ (x : Object). x.word ≡ (object_at t q).word) (names declarations q) (λ e. refl) (λ e. refl));
      local = λ q. rw (started.object q) (pick_when (λ (x : Object). x.local ≡ (object_at t q).local) (names declarations q) (λ e. refl) (λ e. refl));
      terminal = λ q. rw (started.object q) (pick_when (λ (x : Object). x.terminal ≡ (object_at t q).terminal) (names declarations q) (λ e. refl) (λ e. refl));
      own_live = started.live s ∙ rw (eq-eqb s s refl);
      live = λ r other. started.live r ∙ rw (ne_eqb r s other);
    }

-- two places apart have a test that fails
apart : (r s q o : ℕ) → ((r ≡ s) × (q ≡ o) → ⊥) → eqb r s && eqb q o ≡ false
apart r s q o other = by (eqb r s && eqb q o) refl
  where
    by : (same : Bool) → eqb r s && eqb q o ≡ same → eqb r s && eqb q o ≡ false
    by false e = e
    by true e =
        let both : (eqb r s ≡ true) × (eqb q o ≡ true) = both_true (eqb r s) (eqb q o) e in
        absurd (other (eqb-true r s both.0, eqb-true q o both.1))

called_leaves : (z : Size) (s o kind argument : ℕ) (t u : State) → Called z s o kind argument t u → CallLeaves z s o t u
called_leaves z s o kind argument t u called =
    record {
      pairs = λ r q below other. called.pair r q below ∙ rw (apart r s q o other);
      objects = λ q other. called.object q ∙ rw (ne_eqb q o other);
      global = rw (called.object o, eq-eqb o o refl);
      terminal = rw (called.object o, eq-eqb o o refl);
      live = called.live;
    }

gave_way_leaves : (z : Size) (s o : ℕ) (t u : State) → GaveWay z s o t u → ReleaseLeaves o t u
gave_way_leaves z s o t u gave =
    record {
      pairs = gave.pairs;
      objects = λ q other. gave.object q ∙ rw (ne_eqb q o other);
      word = rw (gave.object o, eq-eqb o o refl);
      global = rw (gave.object o, eq-eqb o o refl);
      terminal = rw (gave.object o, eq-eqb o o refl);
      live = gave.live;
    }

module _ (z : Size) (t : State) (sized : Sized z t) where
  -- an accepted start has its effect, place by place
  pub start_places : (s : ℕ) (list : List ℕ) → (start_step z t s list).reply.number ≡ 0
      → Started z s (declarations_of list) t (start_step z t s list).tables
  start_places s list done =
      let fits : StartFits z s (live_at t s) list = (start_accepted z t s list).0 done in
      rw (start_comes z t s list done) (start_effect_lem z t s list sized fits.slot fits.rises)

  -- and leaves what it does not touch; so below
  pub start_leaves : (s : ℕ) (list : List ℕ) → (start_step z t s list).reply.number ≡ 0
      → StartLeaves z s (declarations_of list) t (start_step z t s list).tables
  start_leaves s list done = started_leaves z s (declarations_of list) t (start_step z t s list).tables (start_places s list done)

  -- an accepted call has its effect
  pub call_places : (s o kind argument : ℕ) → (call_step z t s o kind argument).reply.number ≡ 0
      → Called z s o kind argument t (call_step z t s o kind argument).tables
  call_places s o kind argument done =
      let fits : ReleaseFits z t s o = ((call_accepted z t s o kind argument).0 done).release in
      rw (call_comes z t s o kind argument done) (call_effect_lem z t sized s o fits.object kind argument fits.slot)

  pub call_leaves : (s o kind argument : ℕ) → (call_step z t s o kind argument).reply.number ≡ 0
      → CallLeaves z s o t (call_step z t s o kind argument).tables
  call_leaves s o kind argument done = called_leaves z s o kind argument t (call_step z t s o kind argument).tables (call_places s o kind argument done)

  -- an accepted release has its effect
  pub release_places : (s o : ℕ) → (release_step z t s o).reply.number ≡ 0 → GaveWay z s o t (release_step z t s o).tables
  release_places s o done = rw (release_comes z t s o done) (release_effect_lem z t sized s o ((release_accepted z t s o).0 done).object)

  pub release_leaves : (s o : ℕ) → (release_step z t s o).reply.number ≡ 0 → ReleaseLeaves o t (release_step z t s o).tables
  release_leaves s o done = gave_way_leaves z s o t (release_step z t s o).tables (release_places s o done)
