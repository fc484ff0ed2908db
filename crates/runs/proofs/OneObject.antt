-- One object by itself: the calls on it, the word that they leave, and whether they give the answers that they gave.
use Prim.Native.Nat.{ℕ}
use mathlib.Core.List.{List, [], ◌∷◌, ◌++◌, append_assoc}
use mathlib.Core.Logic.{◌≢◌}
use mathlib.Core.Path.{◌≡◌, refl, sym, ap, ◌∙◌}
use lib.Dec.{eqb}
use borrow.Author.Tests.{ne_eqb}
use Rattle.answers.specs.Order.{pick}
use Rattle.kinds.specs.Kinds.{acted}
use Rattle.runs.specs.Histories.{Call}

abbrev pub calls_on : ℕ → List Call → List Call
calls_on o [] = []
calls_on o (call ∷ calls) = pick (eqb call.object o) (call ∷ []) [] ++ calls_on o calls

-- the word after these calls on it
abbrev pub replay : List Call → ℕ → ℕ
replay [] word = word
replay (call ∷ calls) word = replay calls (acted call.kind word call.argument).word

-- these calls, made from this word on, give the answers that they gave
abbrev pub Agree : List Call → ℕ → Type 0
Agree [] word = Unit {0}
Agree (call ∷ calls) word =
    ((acted call.kind word call.argument).answer ≡ call.answer) × Agree calls (acted call.kind word call.argument).word

pub calls_append : (o : ℕ) (a b : List Call) → calls_on o (a ++ b) ≡ calls_on o a ++ calls_on o b
calls_append o [] b = refl
calls_append o (call ∷ a) b =
    ap (λ (l : List Call). pick (eqb call.object o) (call ∷ []) [] ++ l) (calls_append o a b)
    ∙ sym (append_assoc (pick (eqb call.object o) (call ∷ []) []) (calls_on o a) (calls_on o b))

pub replay_append : (a b : List Call) (word : ℕ) → replay (a ++ b) word ≡ replay b (replay a word)
replay_append [] b word = refl
replay_append (call ∷ a) b word = replay_append a b (acted call.kind word call.argument).word

pub agree_append : (a b : List Call) (word : ℕ) → Agree a word → Agree b (replay a word) → Agree (a ++ b) word
agree_append [] b word first then = then
agree_append (call ∷ a) b word first then = (first.0, agree_append a b (acted call.kind word call.argument).word first.1 then)

-- a call of another object is not on this one
pub calls_elsewhere : (o : ℕ) (calls : List Call) (call : Call) → call.object ≢ o → calls_on o (calls ++ call ∷ []) ≡ calls_on o calls
calls_elsewhere o [] call other = rw (ne_eqb call.object o other)
calls_elsewhere o (one ∷ calls) call other =
    ap (λ (l : List Call). pick (eqb one.object o) (one ∷ []) [] ++ l) (calls_elsewhere o calls call other)
