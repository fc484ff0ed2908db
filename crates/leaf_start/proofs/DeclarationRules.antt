-- What the rules of the declarations from a place on decide, by the object there.
use Prim.Native.Nat.{ℕ, ◌+◌, ◌-◌, ◌≤◌, ◌<◌}
use mathlib.Core.Path.{◌≡◌}
use borrow.Author.Tests.{le-leb, lt-leb, lt-ltb, le-ltb}
use mathlib.Core.List.{List}
use lib.ListN.{length, drop, get_or}
use Rattle.answers.specs.Order.{decide}
use Rattle.answers.specs.declared.Refusal.{Refusal}
use Rattle.answers.specs.declared.Refusal.TheVariants.{BadObject, BadList}
use Rattle.counters.specs.Sizes.{Size}
use Rattle.record_layout.specs.Declarations.{declarations_of}
use Rattle.record_layout.proofs.DeclarationWalk.{declarations_next, declarations_end}
use Rattle.rules.specs.Refusing.{declaration_rules}

module _ {A : Type 0} (refused : Refusal → A) (accepted : A) (z : Size) (least : ℕ) (l : List ℕ) (at : ℕ) where
  abbrev from : ℕ → ℕ → A
  from least at = decide (declaration_rules z least (declarations_of (drop at l))) refused accepted

  pub too_large : 1 < length l - at → z.objects ≤ get_or l at 0 → from least at ≡ refused BadObject
  too_large whole large = rw (declarations_next l at whole, le-leb _ _ large)

  pub not_above : 1 < length l - at → get_or l at 0 < z.objects → get_or l at 0 < least → from least at ≡ refused BadList
  not_above whole small low = rw (declarations_next l at whole, lt-leb _ _ small, lt-ltb _ _ low)

  pub rises_on : 1 < length l - at → get_or l at 0 < z.objects → least ≤ get_or l at 0 → from least at ≡ from (get_or l at 0 + 1) (at + 2)
  rises_on whole small high = rw (declarations_next l at whole, lt-leb _ _ small, le-ltb _ _ high)

  pub rises_to_the_end : length l - at ≤ 1 → from least at ≡ accepted
  rises_to_the_end none = rw (declarations_end l at none)
