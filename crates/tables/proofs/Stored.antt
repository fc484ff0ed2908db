-- Some neighbours stored in a list, or some marks in rising places: what is read there and beside them.
use Prim.Native.Nat.{ℕ, ◌+◌, ◌<◌, ◌≤◌}
use mathlib.Core.Bool.{Bool, false}
use mathlib.Core.List.{List}
use mathlib.Core.Path.{◌≡◌, ◌∙◌}
use native.Mathlib.Omega.{arith}
use lib.ListN.{length, set, length-set}
use lib.Seq.{get_or-set_same, get_or-set_other}
use Rattle.tables.specs.Views.{cell, mark}

-- two values side by side
module _ (l : List ℕ) (at x y : ℕ) where
  abbrev pub two : List ℕ
  two = set (set l at x) (at + 1) y

  pub two_beside : (j : ℕ) → (j ≡ at → ⊥) → (j ≡ at + 1 → ⊥) → cell two j ≡ cell l j
  two_beside j first second = get_or-set_other (set l at x) (at + 1) j y 0 second ∙ get_or-set_other l at j x 0 first

  pub two_long : length two ≡ length l
  two_long = length-set (set l at x) (at + 1) y ∙ length-set l at x

  pub two_first : at < length l → cell two at ≡ x
  two_first inside = get_or-set_other (set l at x) (at + 1) at y 0 (λ same. omega arith) ∙ get_or-set_same l at x 0 inside

  pub two_second : at + 1 < length l → cell two (at + 1) ≡ y
  two_second inside = get_or-set_same (set l at x) (at + 1) y 0 (omega (arith, length-set l at x))

-- and two more behind them
module _ (l : List ℕ) (at x y u v : ℕ) where
  abbrev pub four : List ℕ
  four = set (set (two l at x y) (at + 2) u) (at + 3) v

  pub four_beside : (j : ℕ) → (at ≤ j → j < at + 4 → ⊥) → cell four j ≡ cell l j
  four_beside j clear =
      get_or-set_other (set (two l at x y) (at + 2) u) (at + 3) j v 0 (λ same. clear (omega arith) (omega arith))
      ∙ get_or-set_other (two l at x y) (at + 2) j u 0 (λ same. clear (omega arith) (omega arith))
      ∙ two_beside l at x y j (λ same. clear (omega arith) (omega arith)) (λ same. clear (omega arith) (omega arith))

  pub four_long : length four ≡ length l
  four_long = length-set (set (two l at x y) (at + 2) u) (at + 3) v ∙ length-set (two l at x y) (at + 2) u ∙ two_long l at x y

  module _ (inside : at + 3 < length l) where
    before : (j : ℕ) → (j ≡ at + 2 → ⊥) → (j ≡ at + 3 → ⊥) → cell four j ≡ cell (two l at x y) j
    before j third fourth = get_or-set_other (set (two l at x y) (at + 2) u) (at + 3) j v 0 fourth ∙ get_or-set_other (two l at x y) (at + 2) j u 0 third

    pub four_first : cell four at ≡ x
    four_first = before at (λ same. omega arith) (λ same. omega arith) ∙ two_first l at x y (omega arith)

    pub four_second : cell four (at + 1) ≡ y
    four_second = before (at + 1) (λ same. omega arith) (λ same. omega arith) ∙ two_second l at x y (omega arith)

    pub four_third : cell four (at + 2) ≡ u
    four_third =
        get_or-set_other (set (two l at x y) (at + 2) u) (at + 3) (at + 2) v 0 (λ same. omega arith)
        ∙ get_or-set_same (two l at x y) (at + 2) u 0 (omega (arith, two_long l at x y))

    pub four_fourth : cell four (at + 3) ≡ v
    four_fourth =
        get_or-set_same (set (two l at x y) (at + 2) u) (at + 3) v 0 (omega (arith, length-set (two l at x y) (at + 2) u, two_long l at x y))

-- three marks in three columns
module _ (l : List Bool) (d c s : ℕ) (x y v : Bool) where
  abbrev pub marked : List Bool
  marked = set (set (set l d x) c y) s v

  pub marked_beside : (j : ℕ) → (j ≡ d → ⊥) → (j ≡ c → ⊥) → (j ≡ s → ⊥) → mark marked j ≡ mark l j
  marked_beside j first second third =
      get_or-set_other (set (set l d x) c y) s j v false third
      ∙ get_or-set_other (set l d x) c j y false second
      ∙ get_or-set_other l d j x false first

  pub marked_long : length marked ≡ length l
  marked_long = length-set (set (set l d x) c y) s v ∙ length-set (set l d x) c y ∙ length-set l d x

  module _ (order : d < c) (further : c < s) (inside : s < length l) where
    pub marked_first : mark marked d ≡ x
    marked_first =
        get_or-set_other (set (set l d x) c y) s d v false (λ same. omega arith)
        ∙ get_or-set_other (set l d x) c d y false (λ same. omega arith)
        ∙ get_or-set_same l d x false (omega arith)

    pub marked_second : mark marked c ≡ y
    marked_second =
        get_or-set_other (set (set l d x) c y) s c v false (λ same. omega arith)
        ∙ get_or-set_same (set l d x) c y false (omega (arith, length-set l d x))

    pub marked_third : mark marked s ≡ v
    marked_third = get_or-set_same (set (set l d x) c y) s v false (omega (arith, length-set l d x, length-set (set l d x) c y))
