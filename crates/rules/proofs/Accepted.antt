-- When each event is accepted, in plain facts: exactly when none of its rules holds.
use Prim.Native.Nat.{ℕ, ◌*◌, ◌%◌, ◌<◌, ◌≤◌}
use mathlib.Core.Bool.{Bool, true, false, not}
use mathlib.Core.List.{List}
use mathlib.Core.Logic.Iff
use mathlib.Core.Logic.{◌≢◌, ◌↔◌}
use mathlib.Core.Path.{◌≡◌, ap}
use lib.Dec.{ltb}
use lib.ListN.{length}
use borrow.Author.Tests.{leb-false, lt-leb, ltb-false, le-ltb, not-false}
use Rattle.answers.proofs.Deciding.{NoneHolds}
use Rattle.counters.specs.Sizes.{Size}
use Rattle.counters.specs.Versions.{next, difference}
use Rattle.record_layout.specs.Declarations.{declarations_of}
use Rattle.objects.specs.Places.{turn_of, says_released, says_wait}
use Rattle.rules.specs.Tables.{State, object_at, live_at, pair_at}
use Rattle.rules.specs.Refusing.{doomed, misses, unmet, bad_length, declaration_rules, start_rules, end_rules}
use Rattle.rules.specs.Effects.{end_record}
use Rattle.rules.specs.Steps.{start_step, call_step, release_step, end_step}
use Rattle.rules.proofs.Walking.{any_none, none_any}
use Rattle.rules.proofs.Facts.{Rises, declarations_rise, length_fits, turn_now, need_met}
use Rattle.rules.proofs.RulesOf.{rules_of_call, rules_of_release, rules_of_end}
use Rattle.rules.proofs.Exactly.{start_exactly, call_exactly, release_exactly, commit_exactly, rollback_exactly}

-- a start: the slot is free, and its list is not empty, even, not too long and rising
pub record StartFits (z : Size) (s : ℕ) (live : Bool) (list : List ℕ) : Type 0 where
  pub slot : s < z.slots
  pub free : live ≡ false
  pub some : length list ≢ 0
  pub even : length list % 2 ≡ 0
  pub short : length list ≤ 2 * z.objects
  pub rises : Rises z 0 (declarations_of list)

-- a release: the pair is there and declared, and it has its turn
pub record ReleaseFits (z : Size) (t : State) (s o : ℕ) : Type 0 where
  pub slot : s < z.slots
  pub live : live_at t s ≡ true
  pub object : o < z.objects
  pub declared : (pair_at z t s o).declared ≡ true
  pub turn : difference (pair_at z t s o).private.0 (object_at t o).local.0 ≡ 1

-- R10: a slot that is not doomed
abbrev pub Unspoiled : Size → State → ℕ → Type 0
Unspoiled z t s = (q : ℕ) → q < z.objects → (pair_at z t s q).spoiled ≡ false

-- a call: what a release wants, a known kind and no doom
pub record CallFits (z : Size) (t : State) (s o kind : ℕ) : Type 0 where
  pub release : ReleaseFits z t s o
  pub known : kind < 4
  pub unspoiled : Unspoiled z t s

-- a rollback: the slot is live, every declared object meets the terminal need, and the record has room
pub record EndFits (z : Size) (rollback : Bool) (t : State) (s tick : ℕ) (buffer : List ℕ) : Type 0 where
  pub slot : s < z.slots
  pub live : live_at t s ≡ true
  pub need : (q : ℕ) → q < z.objects → (pair_at z t s q).declared ≡ true → next (object_at t q).terminal.0 ≡ (pair_at z t s q).private.0
  pub room : length (end_record z rollback s tick t) ≤ length buffer

-- a commit: what a rollback wants, and no doom
pub record CommitFits (z : Size) (t : State) (s tick : ℕ) (buffer : List ℕ) : Type 0 where
  pub end : EndFits z false t s tick buffer
  pub unspoiled : Unspoiled z t s

pub start_fits : (z : Size) (s : ℕ) (live : Bool) (list : List ℕ) → NoneHolds (start_rules z s live (length list) (declarations_of list)) ↔ StartFits z s live list
start_fits z s live list = (tells, passes)
  where
    long : (bad_length z (length list) ≡ false) ↔ ((length list ≢ 0) × (length list % 2 ≡ 0) × (length list ≤ 2 * z.objects))
    long = length_fits z.objects (length list)

    rise : NoneHolds (declaration_rules z 0 (declarations_of list)) ↔ Rises z 0 (declarations_of list)
    rise = declarations_rise z 0 (declarations_of list)

    tells : NoneHolds (start_rules z s live (length list) (declarations_of list)) → StartFits z s live list
    tells (slot, (free, (fits, rises))) =
        let fitting = long.0 fits in
        record {
          slot = leb-false z.slots s slot;
          free = free;
          some = fitting.0;
          even = fitting.1;
          short = fitting.2;
          rises = rise.0 rises;
        }

    passes : StartFits z s live list → NoneHolds (start_rules z s live (length list) (declarations_of list))
    passes f = (lt-leb z.slots s f.slot, (f.free, (long.1 (f.some, f.even, f.short), rise.1 f.rises)))

module _ (z : Size) (t : State) where
  none_spoiled : (s : ℕ) → (doomed z t s ≡ false) ↔ Unspoiled z t s
  none_spoiled s = (any_none z.objects (λ q. (pair_at z t s q).spoiled), none_any z.objects (λ q. (pair_at z t s q).spoiled))

  release_fits : (s o : ℕ) → NoneHolds (rules_of_release z t s o) ↔ ReleaseFits z t s o
  release_fits s o = (tells, passes)
    where
      now : ((says_released (turn_of z.slots (pair_at z t s o) (object_at t o)) ≡ false) × (says_wait (turn_of z.slots (pair_at z t s o) (object_at t o)) ≡ false))
          ↔ (difference (pair_at z t s o).private.0 (object_at t o).local.0 ≡ 1)
      now = turn_now z.slots (difference (pair_at z t s o).private.0 (object_at t o).local.0)

      tells : NoneHolds (rules_of_release z t s o) → ReleaseFits z t s o
      tells (slot, (live, (object, (declared, (held, (early, rest)))))) =
          record {
            slot = leb-false z.slots s slot;
            live = not-false (live_at t s) live;
            object = leb-false z.objects o object;
            declared = not-false (pair_at z t s o).declared declared;
            turn = now.0 (held, early);
          }

      passes : ReleaseFits z t s o → NoneHolds (rules_of_release z t s o)
      passes f = (
        lt-leb z.slots s f.slot,
        (ap not f.live, (lt-leb z.objects o f.object, (ap not f.declared, ((now.1 f.turn).0, ((now.1 f.turn).1, tt))))),
      )

  -- a call has the rules of a release, and two more
  call_fits : (s o kind : ℕ) → NoneHolds (rules_of_call z t s o kind) ↔ CallFits z t s o kind
  call_fits s o kind = (tells, λ f. with_two f ((release_fits s o).1 f.release))
    where
      tells : NoneHolds (rules_of_call z t s o kind) → CallFits z t s o kind
      tells (slot, (live, (object, (declared, (known, (clean, turn)))))) =
          record {
            release = (release_fits s o).0 (slot, (live, (object, (declared, turn))));
            known = leb-false 4 kind known;
            unspoiled = (none_spoiled s).0 clean;
          }

      with_two : CallFits z t s o kind → NoneHolds (rules_of_release z t s o) → NoneHolds (rules_of_call z t s o kind)
      with_two f (slot, (live, (object, (declared, turn)))) =
          (slot, (live, (object, (declared, (lt-leb 4 kind f.known, ((none_spoiled s).1 f.unspoiled, turn))))))

  -- the rules of a rollback, of the record of either end
  end_fits : (rollback : Bool) (s tick : ℕ) (buffer : List ℕ)
      → NoneHolds (end_rules z true s (live_at t s) (doomed z t s) (unmet z t s) (ltb (length buffer) (length (end_record z rollback s tick t))))
      ↔ EndFits z rollback t s tick buffer
  end_fits rollback s tick buffer = (tells, passes)
    where
      missed : ℕ → Bool
      missed o = misses (pair_at z t s o) (object_at t o)

      bytes : ℕ
      bytes = length (end_record z rollback s tick t)

      tells : NoneHolds (end_rules z true s (live_at t s) (doomed z t s) (unmet z t s) (ltb (length buffer) bytes)) → EndFits z rollback t s tick buffer
      tells (slot, (live, (met, (room, none)))) =
          record {
            slot = leb-false z.slots s slot;
            live = not-false (live_at t s) live;
            need = λ q below. (need_met (pair_at z t s q) (object_at t q)).0 (any_none z.objects missed met q below);
            room = ltb-false (length buffer) bytes room;
          }

      passes : EndFits z rollback t s tick buffer → NoneHolds (end_rules z true s (live_at t s) (doomed z t s) (unmet z t s) (ltb (length buffer) bytes))
      passes f =
          let met = none_any z.objects missed (λ q below. (need_met (pair_at z t s q) (object_at t q)).1 (f.need q below)) in
          (lt-leb z.slots s f.slot, (ap not f.live, (met, (le-ltb (length buffer) bytes f.room, tt))))

  -- a commit has one more
  commit_fits : (s tick : ℕ) (buffer : List ℕ) → NoneHolds (rules_of_end z t false s tick buffer) ↔ CommitFits z t s tick buffer
  commit_fits s tick buffer = (tells, λ f. with_one f ((end_fits false s tick buffer).1 f.end))
    where
      tells : NoneHolds (rules_of_end z t false s tick buffer) → CommitFits z t s tick buffer
      tells (slot, (live, (clean, rest))) =
          record { end = (end_fits false s tick buffer).0 (slot, (live, rest)); unspoiled = (none_spoiled s).0 clean }

      with_one : CommitFits z t s tick buffer
          → NoneHolds (end_rules z true s (live_at t s) (doomed z t s) (unmet z t s) (ltb (length buffer) (length (end_record z false s tick t))))
          → NoneHolds (rules_of_end z t false s tick buffer)
      with_one f (slot, (live, rest)) = (slot, (live, ((none_spoiled s).1 f.unspoiled, rest)))

  -- each event is accepted exactly when it fits
  pub start_accepted : (s : ℕ) (list : List ℕ) → ((start_step z t s list).reply.number ≡ 0) ↔ StartFits z s (live_at t s) list
  start_accepted s list = Iff.trans (start_exactly z t s list).accepts (start_fits z s (live_at t s) list)

  pub call_accepted : (s o kind argument : ℕ) → ((call_step z t s o kind argument).reply.number ≡ 0) ↔ CallFits z t s o kind
  call_accepted s o kind argument = Iff.trans (call_exactly z t s o kind argument).accepts (call_fits s o kind)

  pub release_accepted : (s o : ℕ) → ((release_step z t s o).reply.number ≡ 0) ↔ ReleaseFits z t s o
  release_accepted s o = Iff.trans (release_exactly z t s o).accepts (release_fits s o)

  pub commit_accepted : (s tick : ℕ) (buffer : List ℕ) → ((end_step z false t s tick buffer).reply.number ≡ 0) ↔ CommitFits z t s tick buffer
  commit_accepted s tick buffer = Iff.trans (commit_exactly z t s tick buffer).accepts (commit_fits s tick buffer)

  pub rollback_accepted : (s tick : ℕ) (buffer : List ℕ) → ((end_step z true t s tick buffer).reply.number ≡ 0) ↔ EndFits z true t s tick buffer
  rollback_accepted s tick buffer = Iff.trans (rollback_exactly z t s tick buffer).accepts (end_fits true s tick buffer)

  -- either end, where it is accepted
  pub end_accepted : (rollback : Bool) (s tick : ℕ) (buffer : List ℕ) → (end_step z rollback t s tick buffer).reply.number ≡ 0
      → EndFits z rollback t s tick buffer
  end_accepted true s tick buffer done = (rollback_accepted s tick buffer).0 done
  end_accepted false s tick buffer done = ((commit_accepted s tick buffer).0 done).end
