-- The entries that are still to come rise by the same answer as the whole list does.
use Rattle.std.proofs.Common.{◌≡◌}
use Rattle.counters.specs.Sizes.{base}
use Rattle.record_layout.specs.Entries.{entries_of, rising_from}
use Rattle.record_bytes.specs.ListsLeft.{entries_left}
use Rattle.record_bytes.proofs.rise.Given as goal

abbrev pub invariant-loop-entry : goal.invariant-loop-entry
invariant-loop-entry l = rising_from base.objects 0 (entries_of l.list) ≡ rising_from base.objects l.least (entries_left l.entry-iterator)
