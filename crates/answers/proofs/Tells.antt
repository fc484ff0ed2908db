-- A reply tells its answer: numbers and values are never shared, so no second answer fits a promise on the reply.
use Rattle.std.specs.Prelude.{Ok, Err}
use Prim.Native.Nat.{ℕ}
use mathlib.Core.Path.{◌≡◌, refl, sym, ap, ◌∙◌}
use mathlib.Core.List.{List, [], ◌∷◌}
use lib.ListN.{get_or}
use Rattle.answers.specs.Numbers.{reply_of, Answer}
use Rattle.answers.specs.declared.Reply.{Reply}
use Rattle.answers.specs.declared.Refusal.TheVariants.{BadSlot, BadObject, BadList, Busy, Idle, NotDeclared, BadCall, Released, Doomed, Wait, NoRoom, BadRecord}

-- R20 read by number
abbrev table : List Answer
table =
    Ok 0
    ∷ Err BadSlot
    ∷ Err BadObject
    ∷ Err BadList
    ∷ Err Busy
    ∷ Err Idle
    ∷ Err NotDeclared
    ∷ Err BadCall
    ∷ Err Released
    ∷ Err Doomed
    ∷ Err Wait
    ∷ Err NoRoom
    ∷ Err BadRecord
    ∷ []

valued : Answer → ℕ → Answer
valued (Ok v) n = Ok n
valued (Err r) n = Err r

-- the answer that a reply is of
pub answer_of : Reply → Answer
answer_of p = valued (get_or table p.number (Ok 0)) p.value

pub answer_back : (a : Answer) → answer_of (reply_of a) ≡ a
unfolding answer_of valued
answer_back (Ok v) = refl
answer_back (Err BadSlot) = refl
answer_back (Err BadObject) = refl
answer_back (Err BadList) = refl
answer_back (Err Busy) = refl
answer_back (Err Idle) = refl
answer_back (Err NotDeclared) = refl
answer_back (Err BadCall) = refl
answer_back (Err Released) = refl
answer_back (Err Doomed) = refl
answer_back (Err Wait) = refl
answer_back (Err NoRoom) = refl
answer_back (Err BadRecord) = refl

pub reply_tells : (a b : Answer) → reply_of a ≡ reply_of b → a ≡ b
reply_tells a b p = sym (answer_back a) ∙ ap answer_of p ∙ answer_back b
