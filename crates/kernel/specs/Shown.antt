-- What the library shows beside steps: an object and a pair as words, and whether marks are right.
use Rattle.std.specs.Prelude.{ℕ, Bool, List, [], ◌∷◌, leb}
use Rattle.answers.specs.Numbers.{number_of}
use Rattle.answers.specs.Order.{Rule, decide, pick, ◌when◌}
use Rattle.answers.specs.declared.Refusal.TheVariants.{BadSlot, BadObject}
use Rattle.counters.specs.Sizes.{base}
use Rattle.objects.specs.declared.Object.{Object}
use Rattle.objects.specs.declared.Pair.{Pair}
use Rattle.std.specs.List.{list_all}

-- a look: the number, and the lent words, which a refusal leaves as they were
pub record Look : Type 0 where
  pub number : ℕ
  pub words : List ℕ

abbrev pub bit_of : Bool → ℕ
bit_of b = pick b 1 0

abbrev pub object_words : Object → List ℕ
object_words x = x.word ∷ x.global.0 ∷ x.local.0 ∷ x.terminal.0 ∷ []

abbrev pub pair_words : Bool → Pair → List ℕ
pair_words live p =
    bit_of live
    ∷ bit_of p.declared
    ∷ p.supremum
    ∷ p.private.0
    ∷ p.count.0
    ∷ bit_of p.called
    ∷ bit_of p.spoiled
    ∷ p.saved
    ∷ []

abbrev pub looked : List Rule → List ℕ → List ℕ → Look
looked rules before shown =
    decide rules (λ refusal. record { number = number_of refusal; words = before }) (record { number = 0; words = shown })

abbrev pub look_object_rules : ℕ → List Rule
look_object_rules number = BadObject when leb base.objects number ∷ []

abbrev pub look_pair_rules : ℕ → ℕ → List Rule
look_pair_rules slot number = BadSlot when leb base.slots slot ∷ BadObject when leb base.objects number ∷ []

-- 1 where every byte is 0 or 1
abbrev pub marks_hold : List ℕ → ℕ
marks_hold bytes = bit_of (list_all (λ mark. leb mark 1) bytes)
