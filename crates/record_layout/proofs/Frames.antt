-- What reading does with a frame in front of any body, and any bytes behind that.
use Rattle.std.specs.Prelude.{Err}
use Prim.Native.Nat.{ℕ, ◌+◌, ◌≤◌, ◌<◌}
use mathlib.Core.List.{List, [], ◌++◌}
use mathlib.Core.Path.{◌≡◌, sym, ap, ◌∙◌}
use native.Mathlib.Omega.{arith}
use lib.ListN.{length, take, length-append}
use lib.Seq.{take_at}
use borrow.Author.Tests.{le-ltb}
use Rattle.answers.proofs.Deciding.{NoneHolds, passed}
use Rattle.counters.specs.Sizes.{Size}
use Rattle.record_layout.specs.Bytes.{half_bytes}
use Rattle.record_layout.specs.Kinds.{kind_of, body_limit}
use Rattle.record_layout.specs.Reading.{length_field, kind_field, frame_rules, body, reading_of, reading}
use Rattle.record_layout.proofs.LittleEndian.{half_back}

-- R24: the length of the body, the kind, and what stands behind them
abbrev pub framed : ℕ → ℕ → List ℕ → List ℕ
framed bytes number behind = half_bytes bytes ++ (half_bytes number ++ behind)

module _ (z : Size) (number : ℕ) (b rest : List ℕ) (short : length b ≤ body_limit z) (small : body_limit z < 65536) where
  abbrev s : List ℕ
  s = framed (length b) number (b ++ rest)

  length_told : length_field s ≡ length b
  length_told = half_back (length b) (half_bytes number ++ (b ++ rest)) (omega arith)

  frame_passes : NoneHolds (frame_rules z s)
  frame_passes =
      let whole : length (b ++ rest) ≡ length b + length rest = length-append b rest in (
        le-ltb (length s) 4 (omega arith),
        (
          le-ltb (body_limit z) (length_field s) (rw length_told short),
          (le-ltb (length s) (4 + length_field s) (rw length_told (omega arith)), tt),
        ),
      )

  -- the body of the first record is what stands behind the frame
  pub frame_body : body z s ≡ b
  frame_body =
      passed (frame_rules z s) (λ refusal. []) (take (length_field s) (b ++ rest)) frame_passes
      ∙ take_at b rest (length_field s) (sym length_told)

  -- R29: bytes behind the record do not count, and the reading is that of the body
  pub frame_reading : reading z s ≡ reading_of z (kind_of (kind_field s)) b
  frame_reading =
      passed (frame_rules z s) Err (reading_of z (kind_of (kind_field s)) (body z s)) frame_passes
      ∙ ap (reading_of z (kind_of (kind_field s))) frame_body
