-- Fields and a list make a readable record where the body that they make is short enough and passes the last checks of reading.
use Prim.Native.Nat.{ℕ, ◌≤◌}
use mathlib.Core.Bool.{true}
use mathlib.Core.List.{List}
use mathlib.Core.Path.{◌≡◌}
use lib.ListN.{length}
use lib.Dec.{leb, eqb}
use borrow.Author.Tests.{leb-true, le-leb, eqb-true, eq-eqb}
use Rattle.answers.proofs.Tests.{both_true}
use Rattle.counters.specs.Sizes.{Size}
use Rattle.record_layout.specs.Kinds.{body_length, body_limit}
use Rattle.record_layout.specs.Fields.{kind_of_fields, body_of}
use Rattle.record_layout.specs.Writing.{readable}
use Rattle.record_layout.specs.declared.kind.Kind.{Kind}
use Rattle.record_layout.specs.declared.fields.Fields.{Fields}
use Rattle.record_layout.proofs.Checks.{BodyFits}

-- what reading asks of a body of a kind
pub record IsRight (z : Size) (k : Kind) (b : List ℕ) : Type 0 where
  pub short : length b ≤ body_limit z
  pub fits : BodyFits z k b

-- a readable record has a right body
pub readable_right : (z : Size) (f : Fields) (list : List ℕ) → readable z f list ≡ true → IsRight z (kind_of_fields f) (body_of f list)
readable_right z f list reads =
    let b = body_of f list in
    let long = both_true (leb (length b) (body_limit z)) _ reads in
    let right = both_true (eqb (length b) (body_length z (kind_of_fields f) b)) _ long.1 in
    record {
      short = leb-true (length b) (body_limit z) long.0;
      fits = record { right_length = eqb-true (length b) (body_length z (kind_of_fields f) b) right.0; right_content = right.1 };
    }

-- and a right body makes the record readable
pub right_readable : (z : Size) (f : Fields) (list b : List ℕ) → body_of f list ≡ b → IsRight z (kind_of_fields f) b → readable z f list ≡ true
right_readable z f list b same right =
    let long = eq-eqb (length b) (body_length z (kind_of_fields f) b) right.fits.right_length in
    rw (same, le-leb (length b) (body_limit z) right.short, long) right.fits.right_content
