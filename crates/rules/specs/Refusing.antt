-- R21: of each event the rules that refuse it, in their order.
use Rattle.std.specs.Prelude.{ℕ, ◌+◌, ◌*◌, ◌%◌, Bool, not, ◌&&◌, ◌||◌, List, [], ◌∷◌, ◌++◌, leb, ltb, eqb}
use Rattle.answers.specs.Order.{Rule, ◌when◌, pick}
use Rattle.answers.specs.declared.Refusal.TheVariants.{BadSlot, BadObject, BadList, Busy, Idle, NotDeclared, BadCall, Released, Doomed, Wait, NoRoom}
use Rattle.counters.specs.Sizes.{Size}
use Rattle.counters.specs.Versions.{terminal_need}
use Rattle.record_layout.specs.Declarations.{Declaration}
use Rattle.objects.specs.Places.{turn_of, says_released, says_wait}
use Rattle.objects.specs.declared.Object.{Object}
use Rattle.objects.specs.declared.Pair.{Pair}
use Rattle.rules.specs.Tables.{State, object_at, pair_at}
use Rattle.rules.specs.Walks.{any_below}

-- R10: whether a slot is spoiled on any object
abbrev pub doomed : Size → State → ℕ → Bool
doomed z t s = any_below z.objects (λ o. (pair_at z t s o).spoiled)

-- R9: whether a declared object misses the terminal need
abbrev pub misses : Pair → Object → Bool
misses pair object = pair.declared && not (terminal_need object.terminal.0 pair.private.0)

abbrev pub unmet : Size → State → ℕ → Bool
unmet z t s = any_below z.objects (λ o. misses (pair_at z t s o) (object_at t o))

-- R22: the list's bytes are none, of odd number, or too many
abbrev pub bad_length : Size → ℕ → Bool
bad_length z bytes = eqb bytes 0 || (eqb (bytes % 2) 1 || ltb (2 * z.objects) bytes)

-- R22: of each declaration in turn, the object too large, or not above the one before
abbrev pub declaration_rules : Size → ℕ → List Declaration → List Rule
declaration_rules z least [] = []
declaration_rules z least (declaration ∷ rest) =
    BadObject when leb z.objects declaration.object
    ∷ BadList when ltb declaration.object least
    ∷ declaration_rules z (declaration.object + 1) rest

-- R21: a start
abbrev pub start_rules : Size → ℕ → Bool → ℕ → List Declaration → List Rule
start_rules z slot live bytes declarations =
    BadSlot when leb z.slots slot
    ∷ Busy when live
    ∷ BadList when bad_length z bytes
    ∷ declaration_rules z 0 declarations

-- R21: what a call and a release begin with, whether there is such a pair
abbrev pub place_rules : Size → ℕ → ℕ → Bool → Pair → List Rule
place_rules z slot number live pair =
    BadSlot when leb z.slots slot
    ∷ Idle when not live
    ∷ BadObject when leb z.objects number
    ∷ NotDeclared when not pair.declared
    ∷ []

-- R8: and what they end with, whether it is the pair's turn
abbrev pub turn_rules : Size → Pair → Object → List Rule
turn_rules z pair object =
    Released when says_released (turn_of z.slots pair object)
    ∷ Wait when says_wait (turn_of z.slots pair object)
    ∷ []

-- R21: a call
abbrev pub call_rules : Size → ℕ → ℕ → ℕ → Bool → Bool → Pair → Object → List Rule
call_rules z slot number kind live is-doomed pair object =
    place_rules z slot number live pair
    ++ BadCall when leb 4 kind
    ∷ Doomed when is-doomed
    ∷ turn_rules z pair object

-- R21: a release
abbrev pub release_rules : Size → ℕ → ℕ → Bool → Pair → Object → List Rule
release_rules z slot number live pair object = place_rules z slot number live pair ++ turn_rules z pair object

-- R21: a commit and a rollback; a rollback does not ask whether the slot is doomed
abbrev pub end_rules : Size → Bool → ℕ → Bool → Bool → Bool → Bool → List Rule
end_rules z rollback slot live is-doomed is-unmet short =
    BadSlot when leb z.slots slot
    ∷ Idle when not live
    ∷ pick rollback [] (Doomed when is-doomed ∷ [])
    ++ Wait when is-unmet
    ∷ NoRoom when short
    ∷ []
