-- R12: the list of a start, two bytes to each object that it declares.
use Rattle.std.specs.Prelude.{ℕ, Bool, false, ◌||◌, List, [], ◌∷◌, eqb}

pub record Declaration : Type 0 where
  pub object : ℕ
  pub supremum : ℕ

-- those that a list of bytes holds whole; an odd last byte is left off
abbrev pub declarations_of : List ℕ → List Declaration
declarations_of (object ∷ supremum ∷ rest) = record { object = object; supremum = supremum } ∷ declarations_of rest
declarations_of (object ∷ []) = []
declarations_of [] = []

-- whether one of them is of an object
abbrev pub names : List Declaration → ℕ → Bool
names [] q = false
names (declaration ∷ rest) q = eqb q declaration.object || names rest q
