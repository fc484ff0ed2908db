-- R40: a line, as bytes of text.
use Rattle.std.specs.Prelude.{ℕ, zero, suc, ◌+◌, ◌/◌, ◌%◌, List, [], ◌∷◌, ◌++◌, eqb}
use Rattle.answers.specs.declared.Reply.{Reply}
use Rattle.answers.specs.Order.{pick}

-- R40: the last digit of a number
abbrev pub digit_of : ℕ → ℕ
digit_of n = 48 + n % 10

-- all digits of a number that has at most so many, and none of 0
unfoldable pub digits_of : ℕ → ℕ → List ℕ
digits_of zero n = []
digits_of (suc places) n = pick (eqb n 0) [] (digits_of places (n / 10) ++ (digit_of n ∷ []))

-- R40: the digits of a number below 10^20, as every 64-bit number is: the last one always, and those in front of it
abbrev pub decimal : ℕ → List ℕ
decimal n = digits_of 20 (n / 10) ++ (digit_of n ∷ [])

-- R40: the three numbers, a space between them, and the newline
abbrev pub line_of : ℕ → Reply → List ℕ
line_of event reply = decimal event ++ (32 ∷ (decimal reply.number ++ (32 ∷ (decimal reply.value ++ (10 ∷ [])))))

-- the most bytes that a line has: an event's number of 20 digits, a number of 2, a value of 10, two spaces and the newline
abbrev pub line_limit : ℕ
line_limit = 35
