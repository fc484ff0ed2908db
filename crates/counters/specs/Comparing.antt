-- Which of two versions of one object came first.
use Rattle.std.specs.Prelude.{ℕ, ◌==◌, nat_le}
use Rattle.answers.specs.Order.{pick}
use Rattle.counters.specs.Versions.{difference}
use Rattle.counters.specs.declared.Comparison.{Comparison}
use Rattle.counters.specs.declared.Comparison.TheVariants.{A, B, Same, Far}

-- R36: by e
abbrev pub by_difference : ℕ → Comparison
by_difference e = pick (e == 0) Same (pick (nat_le e 2147483647) A (pick (e == 2147483648) Far B))

-- R36: of A's version and B's
abbrev pub compared : ℕ → ℕ → Comparison
compared a b = by_difference (difference b a)

-- the same answer with A and B changed over
abbrev pub swapped : Comparison → Comparison
swapped A = B
swapped B = A
swapped Same = Same
swapped Far = Far
