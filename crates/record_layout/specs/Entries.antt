-- R24: the entries of an end record, an object and a version each, and whether their objects rise.
use Rattle.std.specs.Prelude.{ℕ, ◌+◌, Bool, true, ◌&&◌, List, [], ◌∷◌, leb, ltb}
use Rattle.record_layout.specs.Bytes.{word_of}

pub record Entry : Type 0 where
  pub object : ℕ
  pub version : ℕ

-- the entries that a list of bytes holds whole
abbrev pub entries_of : List ℕ → List Entry
entries_of (o ∷ a ∷ b ∷ c ∷ d ∷ rest) = record { object = o; version = word_of (a ∷ b ∷ c ∷ d ∷ rest) } ∷ entries_of rest
entries_of (o ∷ a ∷ b ∷ c ∷ []) = []
entries_of (o ∷ a ∷ b ∷ []) = []
entries_of (o ∷ a ∷ []) = []
entries_of (o ∷ []) = []
entries_of [] = []

-- objects below `objects`, each above the one before; the first is at least `least`
abbrev pub rising_from : ℕ → ℕ → List Entry → Bool
rising_from objects least [] = true
rising_from objects least (e ∷ es) = (leb least e.object && ltb e.object objects) && rising_from objects (e.object + 1) es
