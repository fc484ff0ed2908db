-- Bytes put behind what already stands at the front of a buffer.
use Prim.Native.Nat.{ℕ, ◌+◌, ◌-◌, ◌≤◌}
use mathlib.Core.List.{List, ◌++◌, append_assoc}
use mathlib.Core.Path.{◌≡◌, sym, ap, ◌∙◌}
use native.Mathlib.Omega.{arith}
use lib.ListN.{length, take, drop, replicate, length-append}
use lib.Seq.{take_at, take-length, drop-drop, drop-append-add}
use Rattle.record_layout.specs.Kinds.{shape_of}
use Rattle.record_layout.specs.Fields.{kind_of_fields, front_of, record_of}
use Rattle.record_layout.specs.declared.fields.Fields.{Fields}
use Rattle.record_layout.proofs.Lengths.{length_front}
use Rattle.record_front.specs.Serving.Filled.{filled}

-- the next bytes behind a front
pub put_behind : (front x b : List ℕ) (at : ℕ) → length front ≡ at → at + length x ≤ length b
    → take at (front ++ drop at b) ++ (x ++ drop (at + length x) (front ++ drop at b)) ≡ (front ++ x) ++ drop (at + length x) b
put_behind front x b at e h =
    let kept : take at (front ++ drop at b) ≡ front = take_at front (drop at b) at e in
    let behind : drop (at + length x) (front ++ drop at b) ≡ drop (at + length x) b =
    rw (← e) (drop-append-add front (drop (length front) b) (length x) ∙ drop-drop (length x) (length front) b) in
    rw (kept, behind) (sym (append_assoc front x (drop (at + length x) b)))

-- the front of a record, taken from the array that begins with it
pub front_taken : (f : Fields) (bytes at : ℕ) (made : List ℕ) → at ≡ 4 + (shape_of (kind_of_fields f)).head → made ≡ filled 12 (front_of f bytes)
    → take at made ≡ front_of f bytes
front_taken f bytes at made place is_made =
    ap (λ (x : List ℕ). take at x) is_made
    ∙ take_at (front_of f bytes) (replicate (12 - length (front_of f bytes)) 0) at (length_front f bytes ∙ sym place)

-- a list put behind the front of its record
pub front_and_list : (f : Fields) (list made b begun written : List ℕ) (at : ℕ) → at ≡ 4 + (shape_of (kind_of_fields f)).head
    → made ≡ filled 12 (front_of f (length list)) → begun ≡ take (length (take at made)) (take at made) ++ drop (length (take at made)) b
    → written ≡ take at begun ++ (list ++ drop (at + length list) begun)
    → length (record_of f list) ≤ length b → written ≡ record_of f list ++ drop (length (record_of f list)) b
front_and_list f list made b begun written at place is_made first second room =
    let fronted : begun ≡ front_of f (length list) ++ drop (length (front_of f (length list))) b =
    first
    ∙ ap (λ (x : List ℕ). x ++ drop (length (take at made)) b) (take-length (take at made))
    ∙ ap (λ (x : List ℕ). x ++ drop (length x) b) (front_taken f (length list) at made place is_made) in
    let there : length (front_of f (length list)) ≡ at = length_front f (length list) ∙ sym place in
    let long : length (record_of f list) ≡ at + length list = length-append (front_of f (length list)) list ∙ rw there in
    second
    ∙ ap (λ (x : List ℕ). take at x ++ (list ++ drop (at + length list) x)) (fronted ∙ ap (λ (n : ℕ). front_of f (length list) ++ drop n b) there)
    ∙ put_behind (front_of f (length list)) list b at there (omega arith)
    ∙ ap (λ (n : ℕ). record_of f list ++ drop n b) (sym long)
