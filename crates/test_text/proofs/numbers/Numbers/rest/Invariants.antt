-- Each number but the first gives a byte.
use Rattle.std.proofs.Common.{◌≤◌, ◌≡◌, ◌+◌}
use Rattle.arrayvec.specs.ArrayVec.{array_vec_len}
use Rattle.test_text.proofs.numbers.Numbers.rest.Given as goal

abbrev pub invariant-loop-place : goal.invariant-loop-place
invariant-loop-place l = (array_vec_len l.bytes + 1 ≡ l.place) × (array_vec_len l.bytes ≤ 135)
