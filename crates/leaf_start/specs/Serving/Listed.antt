-- Every object that a start declares is below the bound.
use Rattle.std.specs.Prelude.{ℕ, ◌<◌, List, [], ◌∷◌}
use Rattle.record_layout.specs.Declarations.{Declaration}

abbrev pub ListedBelow : ℕ → List Declaration → Type 0
ListedBelow bound [] = Unit {0}
ListedBelow bound (declaration ∷ rest) = (declaration.object < bound) × ListedBelow bound rest
