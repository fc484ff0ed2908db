-- A start: what its verdict says of its step and of its list.
use Prim.Native.Nat.{ℕ, ◌+◌, ◌<◌}
use mathlib.Core.Bool.{Bool, true, false}
use mathlib.Core.List.{List, [], ◌∷◌}
use mathlib.Core.Logic.{◌⊎◌, inl, inr}
use mathlib.Core.Path.{◌≡◌, refl, sym, ap, ◌∙◌}
use native.Mathlib.Omega.{arith}
use borrow.Author.Tests.{leb-false}
use lib.Dec.{leb}
use lib.ListN.{length}
use Rattle.answers.proofs.Deciding.{Accepts, decided}
use Rattle.answers.proofs.Deciding as deciding
use Rattle.answers.specs.Numbers.{accepted}
use Rattle.answers.specs.Order.{Rule, decide, Verdict, refuses, passes}
use Rattle.answers.specs.declared.Refusal.{Refusal}
use Rattle.counters.specs.Sizes.{Size}
use Rattle.record_layout.specs.Declarations.{Declaration, declarations_of}
use Rattle.rules.specs.Effects.{clear_slot, declare_all, start_effect}
use Rattle.rules.specs.Refusing.{start_rules}
use Rattle.rules.specs.Steps.{Stepping, unchanged, start_step}
use Rattle.rules.specs.Tables.{State, live_at, with_live}
use Rattle.leaf_start.specs.Serving.Listed.{ListedBelow}
use Rattle.rules.proofs.Facts.{Rises}
use Rattle.rules.proofs.Accepted.{StartFits, start_fits}
use Rattle.answers.proofs.Saying.{when_refuses}

rises_below : (z : Size) (least : ℕ) (declarations : List Declaration) → Rises z least declarations → ListedBelow z.objects declarations
rises_below z least [] rises = tt
rises_below z least (declaration ∷ rest) rises = (rises.inside, rises_below z (declaration.object + 1) rest rises.behind)

all_pass : (rules : List Rule) → decide rules refuses passes ≡ passes → deciding.NoneHolds rules
all_pass rules e = go (decided rules)
  where
    go : Accepts rules ⊎ deciding.OneHolds rules → deciding.NoneHolds rules
    go (inl a) = a.passes
    go (inr r) =
        let clash : ◌≡◌ {A = ℕ} 0 1 = cc (r.gives refuses passes) in
        absurd (omega arith)

-- the verdict on a start in t, by the slot that is looked at, which is the event's where the event's is in range
pub record Judged (z : Size) (t : State) (slot s : ℕ) (list : List ℕ) (live : Bool) (verdict : Verdict) : Type 0 where
  pub right_slot : slot < z.slots → s ≡ slot
  pub is_live : live ≡ live_at t s
  pub is_verdict : verdict ≡ decide (start_rules z slot live (length list) (declarations_of list)) refuses passes

module _ {z : Size} {t : State} {slot s : ℕ} {list : List ℕ} {live : Bool} {verdict : Verdict} (judged : Judged z t slot s list live verdict) where
  abbrev rules : List Rule
  rules = start_rules z slot live (length list) (declarations_of list)

  abbrev begun : ℕ → Stepping
  begun r = record { tables = start_effect z r (declarations_of list) t; reply = accepted 0 }

  same_rules : decide rules (unchanged t) (begun slot) ≡ start_step z t slot list
  same_rules = by_slot (leb z.slots slot) refl
    where
      by_slot : (test : Bool) → leb z.slots slot ≡ test → decide rules (unchanged t) (begun slot) ≡ start_step z t slot list
      by_slot true e = rw e
      by_slot false e = rw (judged.is_live, judged.right_slot (leb-false _ _ e))

  pub start_refused : {refusal : Refusal} → verdict ≡ refuses refusal → unchanged t refusal ≡ start_step z t slot list
  start_refused {refusal} refuses = sym (when_refuses rules refusal (sym judged.is_verdict ∙ refuses) (unchanged t) (begun slot)) ∙ same_rules

  module _ (passes : verdict ≡ passes) where
    passed : deciding.NoneHolds rules
    passed = all_pass rules (sym judged.is_verdict ∙ passes)

    fits : StartFits z slot live list
    fits = (start_fits z slot live list).0 passed

    pub list_within : ListedBelow z.objects (declarations_of list)
    list_within = rises_below z 0 (declarations_of list) fits.rises

    pub start_passed : (t₁ t₂ t₃ : State) → t₁ ≡ clear_slot z s t → t₂ ≡ declare_all z s (declarations_of list) t₁ → t₃ ≡ with_live t₂ s true
        → record { tables = t₃; reply = accepted 0 } ≡ start_step z t slot list
    start_passed t₁ t₂ t₃ cleared declared lives =
        rw (lives, declared, cleared)
        (ap begun (judged.right_slot fits.slot) ∙ sym (deciding.passed rules (unchanged t) (begun slot) passed) ∙ same_rules)
