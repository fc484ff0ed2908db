-- What tells whether fields and a list make a readable record before any body is made: the fields, the list, and the list's length.
use Rattle.std.specs.Prelude.{ℕ, ◌/◌, Bool, true, ◌&&◌, List, length, ltb}
use Rattle.answers.specs.Order.{pick}
use Rattle.counters.specs.Sizes.{Size}
use Rattle.counters.specs.declared.SlotNo.{SlotNo}
use Rattle.record_layout.specs.Entries.{entries_of, rising_from}
use Rattle.record_layout.specs.declared.kind.Shape.{Shape}
use Rattle.record_layout.specs.declared.fields.Fields.{Fields}

-- how many items a list of so many bytes has to be
abbrev pub items_beside : Size → Shape → ℕ → ℕ
items_beside z shape bytes = pick shape.counted (bytes / shape.item) z.objects

-- slot, n, objects and their order
abbrev pub end_beside : Size → SlotNo → List ℕ → Bool
end_beside z slot list = ltb slot.0 z.slots && (ltb 0 (length list / 5) && rising_from z.objects 0 (entries_of list))

-- the content faults that are left to test: a head made of fields has its zero byte
abbrev pub content_beside : Size → Fields → List ℕ → Bool
content_beside z (Fields.Fresh first) list = true
content_beside z (Fields.Event event) list = true
content_beside z (Fields.Ended tick slot rollback) list = end_beside z slot list
