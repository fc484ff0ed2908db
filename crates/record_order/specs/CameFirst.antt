-- Which of two end records, A and B, came first.
use Rattle.answers.specs.declared.Refusal.{Refusal}
use Rattle.record_layout.specs.Reading.{reading, listing, Reading}
use Rattle.std.specs.Prelude.{ℕ, Bool, true, false, not, List, [], ◌∷◌, eqb, None, Ok, Err, Option, Some, Result, option_map}
use Rattle.answers.specs.Numbers.{accepted, refused}
use Rattle.answers.specs.declared.Reply.{Reply}
use Rattle.answers.specs.Order.{pick, Rule, decide, ◌when◌}
use Rattle.answers.specs.declared.Refusal.TheVariants.{BadRecord}
use Rattle.counters.specs.Sizes.{Size}
use Rattle.counters.specs.Comparing.{compared, swapped}
use Rattle.counters.specs.declared.Comparison.{Comparison}
use Rattle.counters.specs.declared.Comparison.TheVariants.{A, B, Same, Far}
use Rattle.record_layout.specs.Entries.{Entry, entries_of}
use Rattle.record_layout.specs.declared.fields.Fields.{Fields}

-- R35: B's entries gone through for an entry of A's: the comparison at the first with its object, else what is given
abbrev pub meet : Entry → List Entry → Option Comparison → Option Comparison
meet e [] otherwise = otherwise
meet e (f ∷ fs) otherwise = pick (eqb e.object f.object) (Some (compared e.version f.version)) (meet e fs otherwise)

-- R35: A's entries gone through
abbrev pub meeting_of : List Entry → List Entry → Option Comparison
meeting_of [] fs = None
meeting_of (e ∷ es) fs = meet e fs (meeting_of es fs)

-- R34: the records of ends
abbrev pub of_end : Fields → Bool
of_end (Fields.Fresh first) = false
of_end (Fields.Event event) = false
of_end (Fields.Ended tick slot rollback) = true

abbrev pub is_end : Reading → Bool
is_end (Ok read) = of_end read.fields
is_end (Err refusal) = false

-- R34: A is tried before B
abbrev pub order_rules : Bool → Bool → List Rule
order_rules a-is-end b-is-end =
    BadRecord when not a-is-end
    ∷ BadRecord when not b-is-end
    ∷ []

-- R36, none where no object is listed by both (R35), or the refusal (R34)
abbrev pub CameFirst : Type 0
CameFirst = Result (Option Comparison) Refusal

-- R34 to R36, of any bytes
abbrev pub came_first : Size → List ℕ → List ℕ → CameFirst
came_first z a b =
    decide (order_rules (is_end (reading z a)) (is_end (reading z b))) Err (Ok (meeting_of (entries_of (listing z a)) (entries_of (listing z b))))

-- R38: the answers of R36 as numbers
abbrev pub code_of : Comparison → ℕ
code_of A = 1
code_of B = 2
code_of Same = 3
code_of Far = 4

-- R38: what the caller is told
abbrev pub order_of : CameFirst → Reply
order_of (Ok (Some comparison)) = accepted (code_of comparison)
order_of (Ok None) = accepted 5
order_of (Err refusal) = refused refusal

-- the same answer with A and B changed over
abbrev pub swapped_over : CameFirst → CameFirst
swapped_over (Ok found) = Ok (option_map swapped found)
swapped_over (Err refusal) = Err refusal
