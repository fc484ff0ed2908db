-- What is done with versions: the next one, the difference, the turn and the terminal need.
use Rattle.std.specs.Prelude.{ℕ, ◌+◌, ◌-◌, ◌%◌, ◌^◌, Bool, ◌&&◌, ◌==◌, nat_le}
use Rattle.answers.specs.Order.{pick}
use Rattle.counters.specs.declared.Turn.{Turn}
use Rattle.counters.specs.declared.Turn.TheVariants.{Now, Wait, Released}

-- R2: how many versions there are
abbrev pub turnover : ℕ
turnover = 2 ^ 32

-- R2: the version after a version
abbrev pub next : ℕ → ℕ
next v = (v + 1) % turnover

-- R2: the first minus the second
abbrev pub difference : ℕ → ℕ → ℕ
difference a b = (a + (turnover - b)) % turnover

-- R8: the turn by d; a pump of another size waits for as many as it has slots
abbrev pub turn_at : ℕ → ℕ → Turn
turn_at slots d = pick (d == 1) Now (pick (nat_le 2 d && nat_le d slots) Wait Released)

-- R9: the need on one object
abbrev pub terminal_need : ℕ → ℕ → Bool
terminal_need terminal private = next terminal == private

-- the turn by versions counted on past the turnover, which is what R8 is to tell
abbrev pub unwrapped_turn : ℕ → ℕ → Turn
unwrapped_turn private local = pick (private == local + 1) Now (pick (nat_le private local) Released Wait)
