-- What a verdict says of whatever the same rules decide.
use Prim.Native.Nat.{ℕ}
use mathlib.Core.List.{List}
use mathlib.Core.Logic.{◌⊎◌, inl, inr}
use mathlib.Core.Path.{◌≡◌, ap, ◌∙◌}
use native.Mathlib.Omega.{arith}
use Rattle.answers.proofs.Deciding.{NoneHolds, Accepts, OneHolds, decided, passed}
use Rattle.answers.specs.Order.{Rule, decide, refuses, passes}
use Rattle.answers.specs.declared.Refusal.{Refusal}

module _ (rules : List Rule) where
  pub none_holds : decide rules refuses passes ≡ passes → NoneHolds rules
  none_holds e = go (decided rules)
    where
      go : Accepts rules ⊎ OneHolds rules → NoneHolds rules
      go (inl a) = a.passes
      go (inr r) =
          let clash : ◌≡◌ {A = ℕ} 0 1 = cc (r.gives refuses passes) in
          absurd (omega arith)

  pub when_passes : decide rules refuses passes ≡ passes → {A : Type 0} (refused : Refusal → A) (accepted : A) → decide rules refused accepted ≡ accepted
  when_passes e refused accepted = passed rules refused accepted (none_holds e)

  pub when_refuses : (refusal : Refusal) → decide rules refuses passes ≡ refuses refusal
      → {A : Type 0} (refused : Refusal → A) (accepted : A) → decide rules refused accepted ≡ refused refusal
  when_refuses refusal e {A} refused accepted = go (decided rules)
    where
      go : Accepts rules ⊎ OneHolds rules → decide rules refused accepted ≡ refused refusal
      go (inl a) =
          let clash : ◌≡◌ {A = ℕ} 0 1 = cc (a.gives refuses passes) in
          absurd (omega arith)
      go (inr r) =
          let same : r.refusal ≡ refusal = cc (r.gives refuses passes) in
          r.gives refused accepted ∙ ap refused same
