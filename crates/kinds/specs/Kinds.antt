-- R14: the word that a call of each kind leaves, and its value as an answer.
use Rattle.std.specs.Prelude.{ℕ, ◌+◌, ◌-◌, ◌%◌, ◌^◌, ◌==◌, nat_le}
use Rattle.answers.specs.Order.{pick}
use Rattle.kinds.specs.declared.Acted.{Acted}

-- kind 0, read
abbrev pub read_word : ℕ → Acted
read_word word = record { word = word; answer = word }

-- kind 1, write
abbrev pub written_word : ℕ → Acted
written_word argument = record { word = argument; answer = 0 }

-- kind 2, add
abbrev pub added_word : ℕ → ℕ → Acted
added_word word argument = record { word = (word + argument) % 2 ^ 32; answer = (word + argument) % 2 ^ 32 }

-- kind 3, spend
abbrev pub spent_word : ℕ → ℕ → Acted
spent_word word argument = pick (nat_le argument word) (record { word = word - argument; answer = 1 }) (record { word = word; answer = 0 })

-- R14: no other kind acts
abbrev pub acted : ℕ → ℕ → ℕ → Acted
acted kind word argument =
    pick (kind == 0) (read_word word)
    (pick (kind == 1) (written_word argument)
    (pick (kind == 2) (added_word word argument) (pick (kind == 3) (spent_word word argument) (record { word = word; answer = 0 }))))
