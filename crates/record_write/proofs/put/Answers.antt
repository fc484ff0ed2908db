use Rattle.std.proofs.Common.{◌≡◌, ◌++◌, ◌≤◌, length, take, drop, ℕ, ◌+◌, List, sym, ap, ◌∙◌, arith}
use Rattle.std.proofs.lemmas.List.{drop-drop}
use Rattle.record_layout.specs.Kinds.{shape_of}
use Rattle.record_layout.specs.Fields.{kind_of_fields, front_of, record_of}
use Rattle.record_layout.specs.declared.kind.Shape.{Shape}
use Rattle.record_layout.specs.declared.fields.Fields.{Fields}
use Rattle.record_layout.proofs.Lengths.{length_front, length_record}
use Rattle.record_front.proofs.Splicing.{front_taken, put_behind}
use Rattle.record_write.proofs.put.Goals as goal

-- a front at the first byte, and a list behind it, in two copies
copied : (f : Fields) (list b first second : List ℕ) (at room : ℕ) → at ≡ 4 + (shape_of (kind_of_fields f)).head → first ≡ front_of f (length list)
    → second ≡ list → room ≡ length list → length (record_of f list) ≤ length b
    → take at (first ++ drop at b) ++ (second ++ drop room (drop at (first ++ drop at b))) ≡ record_of f list ++ drop (length (record_of f list)) b
copied f list b first second at room place fronted listed counted fits =
    let long : length (record_of f list) ≡ at + length list = omega (arith, length_record f list) in
    let there : length (front_of f (length list)) ≡ at = length_front f (length list) ∙ sym place in
    rw (fronted, listed, counted, drop-drop)
    (put_behind (front_of f (length list)) list b at there (omega arith) ∙ ap (λ (n : ℕ). record_of f list ++ drop n b) (sym long))

pub returns : goal.returns
returns c =
    let f = c.args.fields in
    let list = c.args.list.now in
    let at = 4 + c.shape.result.head in
    let place = ap (λ (x : Shape). 4 + x.head) c.shape.ensures in
    let fronted = c.copy_from_slice.ensures.after ∙ front_taken f (length list) at c.front-front.result place c.front-front.ensures in
    copied f list c.args.buf.now _ _ at _ place fronted c.copy_from_slice-2.ensures.after (omega arith) c.requires.list_in_bounds
