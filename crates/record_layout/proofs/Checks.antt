-- What the checks of reading say where none of them refuses.
use Prim.Native.Nat.{ℕ, ◌+◌, ◌≤◌}
use mathlib.Core.Bool.{true, not}
use mathlib.Core.List.{List}
use mathlib.Core.Path.{◌≡◌, ap}
use lib.ListN.{length}
use lib.Dec.{eqb}
use borrow.Author.Tests.{ltb-false, eqb-true, eq-eqb, not-false}
use Rattle.answers.proofs.Deciding.{NoneHolds}
use Rattle.counters.specs.Sizes.{Size}
use Rattle.record_layout.specs.Kinds.{body_length, body_limit}
use Rattle.record_layout.specs.Reading.{length_field, frame_rules, content_right, body_rules}
use Rattle.record_layout.specs.declared.kind.Kind.{Kind}

-- R28, 1 to 3
pub record FrameFits (z : Size) (s : List ℕ) : Type 0 where
  pub framed : 4 ≤ length s
  pub short : length_field s ≤ body_limit z
  pub all_there : 4 + length_field s ≤ length s

pub frame_fits : (z : Size) (s : List ℕ) → NoneHolds (frame_rules z s) → FrameFits z s
frame_fits z s (framed, (short, (there, rest))) =
    record {
      framed = ltb-false (length s) 4 framed;
      short = ltb-false (body_limit z) (length_field s) short;
      all_there = ltb-false (length s) (4 + length_field s) there;
    }

-- R28, 5 and 6
pub record BodyFits (z : Size) (k : Kind) (b : List ℕ) : Type 0 where
  pub right_length : length b ≡ body_length z k b
  pub right_content : content_right z k b ≡ true

pub body_fits : (z : Size) (k : Kind) (b : List ℕ) → NoneHolds (body_rules z k b) → BodyFits z k b
body_fits z k b (long, (content, rest)) =
    record {
      right_length = eqb-true (length b) (body_length z k b) (not-false (eqb (length b) (body_length z k b)) long);
      right_content = not-false (content_right z k b) content;
    }

-- and the other way
pub fits_body : (z : Size) (k : Kind) (b : List ℕ) → BodyFits z k b → NoneHolds (body_rules z k b)
fits_body z k b fits = (ap not (eq-eqb (length b) (body_length z k b) fits.right_length), (ap not fits.right_content, tt))
