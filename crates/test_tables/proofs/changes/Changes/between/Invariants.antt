-- No slot has more than 24 pairs.
use Rattle.std.proofs.Common.{◌*◌, ◌≤◌}
use Rattle.test_tables.proofs.changes.Changes.between.Given as goal

abbrev pub invariant-loop-slot : goal.invariant-loop-slot
invariant-loop-slot l = l.pairs ≤ 24 * l.slot
