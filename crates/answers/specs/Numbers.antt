-- The number of each refusal, and what an answer tells: a number and a value.
use Rattle.std.specs.Prelude.{ℕ, Result, Ok, Err}
use Rattle.answers.specs.declared.Refusal.{Refusal}
use Rattle.answers.specs.declared.Refusal.TheVariants.{BadSlot, BadObject, BadList, Busy, Idle, NotDeclared, BadCall, Released, Doomed, Wait, NoRoom, BadRecord}
use Rattle.answers.specs.declared.Reply.{Reply}

-- R11: accepted with a value, or refused
abbrev pub Answer : Type 0
Answer = Result ℕ Refusal

-- R20: the numbers 1 to 12
abbrev pub number_of : Refusal → ℕ
number_of BadSlot = 1
number_of BadObject = 2
number_of BadList = 3
number_of Busy = 4
number_of Idle = 5
number_of NotDeclared = 6
number_of BadCall = 7
number_of Released = 8
number_of Doomed = 9
number_of Wait = 10
number_of NoRoom = 11
number_of BadRecord = 12

-- R20: 0 where nothing refuses
abbrev pub accepted : ℕ → Reply
accepted v = record { number = 0; value = v }

-- R11: 0 is the value beside every refusal
abbrev pub refused : Refusal → Reply
refused r = record { number = number_of r; value = 0 }

abbrev pub reply_of : Answer → Reply
reply_of (Ok v) = accepted v
reply_of (Err r) = refused r
