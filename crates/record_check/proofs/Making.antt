-- Whether fields and a list make a readable record, test by test.
use Prim.Native.Nat.{ℕ, ◌+◌, ◌*◌, ◌/◌, ◌≤◌, ◌<◌}
use mathlib.Core.Bool.{Bool, true, false}
use mathlib.Core.List.{List}
use mathlib.Core.Path.{◌≡◌, ◌∙◌}
use native.Mathlib.Nat.{le_trans, div-le_self}
use native.Mathlib.Omega.{arith}
use lib.ListN.{length}
use borrow.Author.Tests.{le-leb, lt-leb, eq-eqb, ne_eqb}
use Rattle.answers.specs.Order.{pick}
use Rattle.counters.specs.Sizes.{base}
use Rattle.record_layout.specs.Kinds.{shape_of, body_limit}
use Rattle.record_layout.specs.Fields.{kind_of_fields}
use Rattle.record_layout.specs.Serving.Beside.{items_beside, content_beside}
use Rattle.record_layout.specs.Writing.{readable}
use Rattle.record_layout.specs.declared.kind.Shape.{Shape}
use Rattle.record_layout.specs.declared.fields.Fields.{Fields}
use Rattle.record_layout.proofs.Lengths.{readable_beside}

abbrev head : Fields → ℕ
head f = (shape_of (kind_of_fields f)).head

abbrev wanted : Fields → List ℕ → ℕ
wanted f list = (shape_of (kind_of_fields f)).item * items_beside base (shape_of (kind_of_fields f)) (length list)

pub too_long : (f : Fields) (list : List ℕ) → body_limit base < head f + length list → readable base f list ≡ false
too_long f list h = readable_beside base f list ∙ simp (lt-leb _ _ h)

pub wrong_length : (f : Fields) (list : List ℕ) → head f + length list ≤ body_limit base → (length list ≡ wanted f list → ⊥) → readable base f list ≡ false
wrong_length f list h n = readable_beside base f list ∙ simp (le-leb _ _ h, ne_eqb _ _ n)

pub by_content : (f : Fields) (list : List ℕ) → head f + length list ≤ body_limit base → length list ≡ wanted f list → readable base f list ≡ content_beside base f list
by_content f list h e = readable_beside base f list ∙ simp (le-leb _ _ h, eq-eqb _ _ e)

-- items of a list within the limit are few
pub few_items : (shape : Shape) (bytes : ℕ) → bytes ≤ 126 → items_beside base shape bytes ≤ 126
few_items shape bytes h = go shape.counted
  where
    go : (counted : Bool) → pick counted (bytes / shape.item) base.objects ≤ 126
    go true = le_trans (div-le_self bytes shape.item) h
    go false = omega arith
