-- R12 to R17: what each accepted event does to the tables. R27: the record that an end writes.
use Rattle.std.specs.Prelude.{ℕ, Bool, true, false, not, ◌&&◌, List, [], ◌∷◌, eqb}
use Rattle.answers.specs.Order.{pick}
use Rattle.counters.specs.Sizes.{Size}
use Rattle.record_layout.specs.Bytes.{word_bytes}
use Rattle.record_layout.specs.Declarations.{Declaration}
use Rattle.record_layout.specs.Fields.{record_of}
use Rattle.record_layout.specs.declared.fields.Fields.{Fields}
use Rattle.objects.specs.Places.{no_pair, given_out, declared_with, called_object, called_pair, let_go, settled, restores, restored, spoiled_pair}
use Rattle.objects.specs.declared.Object.{Object}
use Rattle.objects.specs.declared.Pair.{Pair}
use Rattle.rules.specs.Tables.{State, object_at, live_at, pair_at, with_object, with_live, with_pair}
use Rattle.rules.specs.Walks.{each_below, join_below}

-- all pairs of a slot zero
abbrev pub clear_slot : Size → ℕ → State → State
clear_slot z s t = each_below z.objects (λ o u. with_pair z u s o no_pair) t

-- R12: a declaration takes the next version of its object
abbrev pub declare_one : Size → ℕ → ℕ → ℕ → State → State
declare_one z s o supremum t =
    let given : Object = given_out (object_at t o) in
    with_pair z (with_object t o given) s o (declared_with supremum given.global)

abbrev pub declare_all : Size → ℕ → List Declaration → State → State
declare_all z s [] t = t
declare_all z s (declaration ∷ rest) t = declare_all z s rest (declare_one z s declaration.object declaration.supremum t)

-- R12: a start
abbrev pub start_effect : Size → ℕ → List Declaration → State → State
start_effect z s declarations t = with_live (declare_all z s declarations (clear_slot z s t)) s true

-- R13: a call, given the word that its kind leaves
abbrev pub call_effect : Size → ℕ → ℕ → ℕ → State → State
call_effect z s o word t =
    let pair : Pair = pair_at z t s o in
    let object : Object = object_at t o in
    with_pair z (with_object t o (called_object word pair object)) s o (called_pair pair object)

-- R15: a release
abbrev pub release_effect : Size → ℕ → ℕ → State → State
release_effect z s o t = with_object t o (let_go (pair_at z t s o).private (object_at t o))

-- R17: another live slot that has called the object is spoiled on it
abbrev pub spoil_one : Size → ℕ → ℕ → ℕ → State → State
spoil_one z s o r t = pick (live_at t r && (not (eqb r s) && (pair_at z t r o).called)) (with_pair z t r o (spoiled_pair (pair_at z t r o))) t

abbrev pub spoil_others : Size → ℕ → ℕ → State → State
spoil_others z s o t = each_below z.slots (λ r u. spoil_one z s o r u) t

-- R17: the word put back, where the slot's pair restores it
abbrev pub restore_one : Size → ℕ → ℕ → State → State
restore_one z s o t = pick (restores (pair_at z t s o)) (spoil_others z s o (with_object t o (restored (pair_at z t s o) (object_at t o)))) t

-- R16: the versions of a declared object move
abbrev pub end_one : Size → ℕ → ℕ → State → State
end_one z s o t = pick (pair_at z t s o).declared (with_object t o (settled z.slots (pair_at z t s o) (object_at t o))) t

-- R16, R17: a rollback restores an object before it ends it
abbrev pub end_turn : Size → Bool → ℕ → ℕ → State → State
end_turn z false s o t = end_one z s o t
end_turn z true s o t = end_one z s o (restore_one z s o t)

-- R16, R17: every object has its turn, and the slot is cleared
abbrev pub end_effect : Size → Bool → ℕ → State → State
end_effect z rollback s t = with_live (clear_slot z s (each_below z.objects (λ o u. end_turn z rollback s o u) t)) s false

-- R27: an entry for each object that the slot has declared
abbrev pub entry_of : ℕ → Pair → List ℕ
entry_of o pair = pick pair.declared (o ∷ word_bytes pair.private.0) []

abbrev pub end_entries : Size → ℕ → State → List ℕ
end_entries z s t = join_below z.objects (λ o. entry_of o (pair_at z t s o))

abbrev pub end_fields : Bool → ℕ → ℕ → Fields
end_fields rollback tick slot = Fields.Ended tick (record { 0 = slot }) rollback

abbrev pub end_record : Size → Bool → ℕ → ℕ → State → List ℕ
end_record z rollback s tick t = record_of (end_fields rollback tick s) (end_entries z s t)
