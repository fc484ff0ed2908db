-- The lengths of what fields make, and whether it is readable told by the fields and the list alone: what code can test before it
-- makes a body.
use Prim.Native.Nat.{ℕ, ◌+◌, ◌-◌, ◌*◌, ◌<◌, ◌≤◌}
use mathlib.Core.Bool.{Bool, true, false, ◌&&◌}
use mathlib.Core.List.{List}
use mathlib.Core.Path.{◌≡◌, refl, sym, ap, subst, ◌∙◌}
use native.Mathlib.Omega.{arith}
use lib.ListN.{length, length-append}
use lib.Dec.{leb, eqb}
use borrow.Author.Tests.{eq-eqb, ne_eqb, eqb-true, eqb-false}
use Rattle.counters.specs.Sizes.{Size}
use Rattle.record_layout.specs.Kinds.{shape_of, items_of, body_length, body_limit}
use Rattle.record_layout.specs.Fields.{kind_of_event, kind_of_fields, event_head, head_of, front_of, body_of, record_of}
use Rattle.record_layout.specs.Reading.{content_right}
use Rattle.record_layout.specs.Writing.{readable}
use Rattle.record_layout.specs.Serving.Beside.{items_beside, content_beside}
use Rattle.record_layout.specs.declared.kind.Kind.{Kind}
use Rattle.record_layout.specs.declared.kind.Kind.TheVariants.{Fresh, Start, Call, Release, End, Ended}
use Rattle.record_layout.specs.declared.kind.Shape.{Shape}
use Rattle.record_layout.specs.declared.fields.Event.{Event}
use Rattle.record_layout.specs.declared.fields.Fields.{Fields}

-- a head has the bytes that the table of kinds says
pub length_head : (f : Fields) (bytes : ℕ) → length (head_of f bytes) ≡ (shape_of (kind_of_fields f)).head
length_head (Fields.Fresh first) bytes = refl
length_head (Fields.Event event) bytes = go event
  where
    go : (e : Event) → length (event_head e bytes) ≡ (shape_of (kind_of_event e)).head
    go (Event.Start slot) = refl
    go (Event.Call slot object kind argument) = refl
    go (Event.Release slot object) = refl
    go (Event.End slot tick rollback) = refl
length_head (Fields.Ended tick slot rollback) bytes = refl

-- a frame of four bytes stands in front of the head
pub length_front : (f : Fields) (bytes : ℕ) → length (front_of f bytes) ≡ 4 + (shape_of (kind_of_fields f)).head
length_front f bytes = omega (arith, length_head f bytes)

-- the list stands behind the head
pub length_body : (f : Fields) (list : List ℕ) → length (body_of f list) ≡ (shape_of (kind_of_fields f)).head + length list
length_body f list = length-append (head_of f (length list)) list ∙ rw (length_head f (length list))

-- and a record is a frame and a body
pub length_record : (f : Fields) (list : List ℕ) → length (record_of f list) ≡ 4 + ((shape_of (kind_of_fields f)).head + length list)
length_record f list = omega (arith, length_body f list)

-- what a made body says of its items and its content, its list alone says
record Beside (z : Size) (f : Fields) (list : List ℕ) : Type 0 where
  items : items_of z (shape_of (kind_of_fields f)) (body_of f list) ≡ items_beside z (shape_of (kind_of_fields f)) (length list)
  content : content_right z (kind_of_fields f) (body_of f list) ≡ content_beside z f list

beside : (z : Size) (f : Fields) (list : List ℕ) → Beside z f list
beside z (Fields.Fresh first) list = record { items = refl; content = refl }
beside z (Fields.Event event) list = go event
  where
    go : (e : Event) → Beside z (Fields.Event e) list
    go (Event.Start slot) = record { items = refl; content = refl }
    go (Event.Call slot object kind argument) = record { items = refl; content = refl }
    go (Event.Release slot object) = record { items = refl; content = refl }
    go (Event.End slot tick rollback) = record { items = refl; content = refl }
beside z (Fields.Ended tick slot rollback) list = record { items = refl; content = refl }

eqb_behind : (n a b : ℕ) → eqb (n + a) (n + b) ≡ eqb a b
eqb_behind n a b = go (eqb a b) refl
  where
    go : (t : Bool) → eqb a b ≡ t → eqb (n + a) (n + b) ≡ t
    go true e = eq-eqb (n + a) (n + b) (rw (eqb-true a b e))
    go false e =
        let apart : a ≡ b → ⊥ = eqb-false a b e in
        ne_eqb (n + a) (n + b) (λ (q : n + a ≡ n + b). apart (omega arith))

-- readable, in what is there before the body is made
pub readable_beside : (z : Size) (f : Fields) (list : List ℕ)
    → readable z f list
    ≡ (leb ((shape_of (kind_of_fields f)).head + length list) (body_limit z)
    && (eqb (length list) ((shape_of (kind_of_fields f)).item * items_beside z (shape_of (kind_of_fields f)) (length list)) && content_beside z f list))
readable_beside z f list =
    let shape : Shape = shape_of (kind_of_fields f) in
    rw (
      length_body f list,
      (beside z f list).items,
      (beside z f list).content,
      eqb_behind shape.head (length list) (shape.item * items_beside z shape (length list)),
    )

-- what holds of every row of the table: the head has one to eight bytes, and items that are counted have some
pub record Row (shape : Shape) : Type 0 where
  pub some_head : 0 < shape.head
  pub short_head : shape.head ≤ 8
  pub counted_item : shape.counted ≡ true → 0 < shape.item

not_counted : {A : Type 0} → ◌≡◌ {A = Bool} false true → A
not_counted wrong = let clash : ◌≡◌ {A = ℕ} 0 1 = cc in absurd (omega arith)

pub row : (k : Kind) → Row (shape_of k)
row Fresh = record { some_head = omega arith; short_head = omega arith; counted_item = not_counted }
row Start = record { some_head = omega arith; short_head = omega arith; counted_item = λ counted. omega arith }
row Call = record { some_head = omega arith; short_head = omega arith; counted_item = not_counted }
row Release = record { some_head = omega arith; short_head = omega arith; counted_item = not_counted }
row (End rollback) = record { some_head = omega arith; short_head = omega arith; counted_item = not_counted }
row (Ended rollback) = record { some_head = omega arith; short_head = omega arith; counted_item = λ counted. omega arith }

-- the head of a kind that is told is there
pub head_of_lem : {j k : Kind} (b : List ℕ) → j ≡ k → (shape_of j).head ≤ length b → (shape_of k).head ≤ length b
head_of_lem b told there = subst (λ (x : Kind). (shape_of x).head ≤ length b) told there

-- the length of a body, told by what is left behind its head
pub by_the_rest : (z : Size) (k : Kind) (b : List ℕ) (shape : Shape) (items : ℕ) → shape ≡ shape_of k → shape.head ≤ length b → items ≡ items_of z shape b
    → eqb (length b - shape.head) (shape.item * items) ≡ eqb (length b) (body_length z k b)
by_the_rest z k b shape items same there counted =
    let all : shape.head + (length b - shape.head) ≡ length b = omega arith in
    sym (eqb_behind shape.head (length b - shape.head) (shape.item * items))
    ∙ ap (λ (n : ℕ). eqb n (shape.head + shape.item * items)) all
    ∙ ap (λ (n : ℕ). eqb (length b) (shape.head + shape.item * n)) counted
    ∙ ap (λ (x : Shape). eqb (length b) (x.head + x.item * items_of z x b)) same
