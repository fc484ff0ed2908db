-- A list of rules decides in one of two ways, whatever is given back: no rule holds, or one refusal is given.
use mathlib.Core.Bool.{Bool, true, false}
use mathlib.Core.List.{List, [], ◌∷◌}
use mathlib.Core.Logic.{◌⊎◌, inl, inr}
use mathlib.Core.Path.{◌≡◌, refl}
use Rattle.answers.specs.Order.{Rule, decide}
use Rattle.answers.specs.declared.Refusal.{Refusal}

-- no rule holds
abbrev pub NoneHolds : List Rule → Type 0
NoneHolds [] = Unit {0}
NoneHolds (rule ∷ rules) = (rule.holds ≡ false) × NoneHolds rules

pub record Accepts (rules : List Rule) : Type 1 where
  pub passes : NoneHolds rules
  pub gives : {A : Type 0} (refused : Refusal → A) (accepted : A) → decide rules refused accepted ≡ accepted

pub record OneHolds (rules : List Rule) : Type 1 where
  pub refusal : Refusal
  pub gives : {A : Type 0} (refused : Refusal → A) (accepted : A) → decide rules refused accepted ≡ refused refusal

later : (rule : Rule) (rules : List Rule) → rule.holds ≡ false → Accepts rules ⊎ OneHolds rules → Accepts (rule ∷ rules) ⊎ OneHolds (rule ∷ rules)
later rule rules e (inl a) = inl (record { passes = (e, a.passes); gives = λ refused accepted. rw e (a.gives refused accepted) })
later rule rules e (inr r) = inr (record { refusal = r.refusal; gives = λ refused accepted. rw e (r.gives refused accepted) })

pub decided : (rules : List Rule) → Accepts rules ⊎ OneHolds rules
decided [] = inl (record { passes = tt; gives = λ refused accepted. refl })
decided (rule ∷ rules) = first rule.holds refl (decided rules)
  where
    first : (t : Bool) → rule.holds ≡ t → Accepts rules ⊎ OneHolds rules → Accepts (rule ∷ rules) ⊎ OneHolds (rule ∷ rules)
    first true e rest = inr (record { refusal = rule.refusal; gives = λ refused accepted. rw e })
    first false e rest = later rule rules e rest

-- behind a rule, rules that decide alike wherever that rule does not hold decide alike
pub behind_rule : {A : Type 0} (rule : Rule) (these those : List Rule) (refused : Refusal → A) (accepted : A)
    → (rule.holds ≡ false → decide these refused accepted ≡ decide those refused accepted)
    → decide (rule ∷ these) refused accepted ≡ decide (rule ∷ those) refused accepted
behind_rule {A} rule these those refused accepted alike = go rule.holds refl
  where
    go : (t : Bool) → rule.holds ≡ t → decide (rule ∷ these) refused accepted ≡ decide (rule ∷ those) refused accepted
    go true e = rw e
    go false e = rw e (alike e)

-- the other way: where no rule holds, what is accepted is given
pub passed : {A : Type 0} (rules : List Rule) (refused : Refusal → A) (accepted : A) → NoneHolds rules → decide rules refused accepted ≡ accepted
passed [] refused accepted p = refl
passed (rule ∷ rules) refused accepted p = rw p.0 (passed rules refused accepted p.1)
