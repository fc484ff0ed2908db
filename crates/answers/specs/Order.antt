-- R19: rules are tried one after the other, and the first that holds refuses.
use Rattle.std.specs.Prelude.{Bool, true, false, List, [], ◌∷◌, Result, Ok, Err}
use Rattle.answers.specs.declared.Refusal.{Refusal}

-- the first of two where the test holds, else the second
abbrev pub pick : {A : Type 0} → Bool → A → A → A
pick true a b = a
pick false a b = b

-- R19: a rule gives its refusal where it holds
pub record Rule : Type 0 where
  pub holds : Bool
  pub refusal : Refusal

-- R19: the refusal of the first rule that holds, as the caller takes it, or what is accepted where none holds
abbrev pub decide : {A : Type 0} → List Rule → (Refusal → A) → A → A
decide [] refused accepted = accepted
decide (rule ∷ rules) refused accepted = pick rule.holds (refused rule.refusal) (decide rules refused accepted)

-- R19: nothing, or the refusal of the first rule that holds
abbrev pub Verdict : Type 0
Verdict = Result (Unit {0}) Refusal

abbrev pub passes : Verdict
passes = Ok tt

abbrev pub refuses : Refusal → Verdict
refuses refusal = Err refusal

infix 68 ◌when◌
-- a rule as R20 lists it: the refusal, and when it is given
abbrev pub ◌when◌ : Refusal → Bool → Rule
refusal when test = record { holds = test; refusal = refusal }
