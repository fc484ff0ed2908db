-- What the theorems on records ask of the fields: that each fits its type, as every value of the code does.
use Rattle.std.specs.Prelude.{◌<◌, ◌^◌}
use Rattle.record_layout.specs.declared.fields.Event.{Event}
use Rattle.record_layout.specs.declared.fields.Fields.{Fields}

abbrev pub FitEvent : Event → Type 0
FitEvent (Event.Start slot) = slot.0 < 256
FitEvent (Event.Call slot object kind argument) = (slot.0 < 256) × (object.0 < 256) × (kind < 256) × (argument < 2 ^ 32)
FitEvent (Event.Release slot object) = (slot.0 < 256) × (object.0 < 256)
FitEvent (Event.End slot tick rollback) = (slot.0 < 256) × (tick < 2 ^ 32)

abbrev pub Fit : Fields → Type 0
Fit (Fields.Fresh first) = first.0 < 2 ^ 32
Fit (Fields.Event event) = FitEvent event
Fit (Fields.Ended tick slot rollback) = (tick < 2 ^ 32) × (slot.0 < 256)
