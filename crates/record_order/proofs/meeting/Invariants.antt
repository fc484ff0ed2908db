-- What is found from an entry of A's on, and from an entry of B's on for it; nothing is found before.
use Rattle.std.specs.Prelude.{None}
use Rattle.std.proofs.Common.{◌≡◌}
use Rattle.record_layout.specs.Entries.{entries_of}
use Rattle.record_bytes.specs.ListsLeft.{as_entry, entries_left}
use Rattle.record_order.specs.CameFirst.{meet, meeting_of}
use Rattle.record_order.proofs.meeting.Given as goal

abbrev pub invariant-outer : goal.invariant-outer
invariant-outer l =
    (l.found ≡ None) × (meeting_of (entries_of l.a) (entries_of l.b) ≡ meeting_of (entries_left l.of_a-iterator) (entries_of l.b))

abbrev pub invariant-loop-of_b : goal.invariant-loop-of_b
invariant-loop-of_b l =
    (l.found ≡ None)
    × (meeting_of (entries_of l.a) (entries_of l.b) ≡ meet (as_entry l.of_a) (entries_left l.of_b-iterator) (meeting_of (entries_left l.of_a-iterator) (entries_of l.b)))
