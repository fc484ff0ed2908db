-- The two buffers keep their lengths, and the bytes at hand stand in the first.
use Rattle.std.proofs.Common.{◌≡◌, ◌≤◌, length}
use Rattle.bench.proofs.run.Given as goal

abbrev pub invariant-loop : goal.invariant-loop
invariant-loop l = (length l.bytes ≡ 65536) × (length l.lines ≡ 65536) × (l.hand ≤ 65536)
