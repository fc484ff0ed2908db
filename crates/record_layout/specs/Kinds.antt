-- R24, R25: of each kind its number, the bytes of its body in front of the list, the bytes of one item of the list, and how the items are
-- counted. Lengths follow from the number of objects.
use Rattle.std.specs.Prelude.{ℕ, ◌+◌, ◌-◌, ◌*◌, true, false, List, [], ◌∷◌, eqb, Option, Some, None}
use Rattle.answers.specs.Order.{pick}
use Rattle.counters.specs.Sizes.{Size}
use Rattle.record_layout.specs.Bytes.{byte_at}
use Rattle.record_layout.specs.declared.kind.Kind.{Kind}
use Rattle.record_layout.specs.declared.kind.Kind.TheVariants.{Fresh, Start, Call, Release, End, Ended}
use Rattle.record_layout.specs.declared.kind.Shape.{Shape}

abbrev pub shape_of : Kind → Shape
shape_of Fresh = record { number = 0x0100; head = 4; item = 4; counted = false }
shape_of Start = record { number = 0x0101; head = 2; item = 2; counted = true }
shape_of Call = record { number = 0x0102; head = 8; item = 0; counted = false }
shape_of Release = record { number = 0x0103; head = 2; item = 0; counted = false }
shape_of (End rollback) = record { number = pick rollback 0x0105 0x0104; head = 5; item = 0; counted = false }
shape_of (Ended rollback) = record { number = pick rollback 0x0202 0x0201; head = 6; item = 5; counted = true }

abbrev pub kinds : List Kind
kinds = Fresh ∷ Start ∷ Call ∷ Release ∷ End false ∷ End true ∷ Ended false ∷ Ended true ∷ []

abbrev pub kind_among : List Kind → ℕ → Option Kind
kind_among [] number = None
kind_among (k ∷ ks) number = pick (eqb number (shape_of k).number) (Some k) (kind_among ks number)

abbrev pub kind_of : ℕ → Option Kind
kind_of number = kind_among kinds number

-- how many items a body lists: as many as the last byte of its head says, or one for each object
abbrev pub items_of : Size → Shape → List ℕ → ℕ
items_of z shape b = pick shape.counted (byte_at b (shape.head - 1)) z.objects

-- the length that a body must have
abbrev pub body_length : Size → Kind → List ℕ → ℕ
body_length z k b = (shape_of k).head + (shape_of k).item * items_of z (shape_of k) b

-- the longest body is that of an end record that lists every object
abbrev pub body_limit : Size → ℕ
body_limit z = (shape_of (Ended false)).head + (shape_of (Ended false)).item * z.objects
