-- Every event, accepted or refused, keeps the sizes of the tables.
use Rattle.record_layout.specs.Reading.{reading, listing, Reading}
use Rattle.std.specs.Prelude.{Err, Ok}
use Prim.Native.Nat.{ℕ}
use mathlib.Core.Bool.{Bool, true, false}
use mathlib.Core.List.{List}
use mathlib.Core.Logic.{◌≢◌}
use mathlib.Core.Path.{◌≡◌, refl}
use lib.Dec.{eqb}
use borrow.Author.Tests.{eqb-true, eqb-false}
use Rattle.counters.specs.Sizes.{Size}
use Rattle.record_layout.specs.declared.fields.Event.{Event}
use Rattle.record_layout.specs.declared.fields.Fields.{Fields}
use Rattle.rules.specs.Tables.{State}
use Rattle.rules.specs.Steps.{start_step, call_step, release_step, end_step, event_step, fields_step, read_step, record_step}
use Rattle.rules.proofs.Stores.{Sized}
use Rattle.rules.proofs.Refused.{start_refused, call_refused, release_refused, end_refused}
use Rattle.rules.proofs.Leaves.{start_places, call_places, release_places}
use Rattle.rules.proofs.EndLeaves.{end_places}

module _ (z : Size) (t : State) (sized : Sized z t) where
  either_way : (number : ℕ) (u : State) → (number ≡ 0 → Sized z u) → (number ≢ 0 → u ≡ t) → Sized z u
  either_way number u done other = by (eqb number 0) refl
    where
      by : (zero : Bool) → eqb number 0 ≡ zero → Sized z u
      by true e = done (eqb-true number 0 e)
      by false e = rw (other (eqb-false number 0 e)) sized

  -- any event, by itself, as the fields of a record and as its bytes
  pub event_sized : (event : Event) (list buffer : List ℕ) → Sized z (event_step z t event list buffer).tables
  event_sized (Event.Start slot) list buffer =
      either_way (start_step z t slot.0 list).reply.number (start_step z t slot.0 list).tables
      (λ done. (start_places z t sized slot.0 list done).sized) (λ other. (start_refused z t slot.0 list other).tables)
  event_sized (Event.Call slot object kind argument) list buffer =
      either_way (call_step z t slot.0 object.0 kind argument).reply.number (call_step z t slot.0 object.0 kind argument).tables
      (λ done. (call_places z t sized slot.0 object.0 kind argument done).sized)
      (λ other. (call_refused z t slot.0 object.0 kind argument other).tables)
  event_sized (Event.Release slot object) list buffer =
      either_way (release_step z t slot.0 object.0).reply.number (release_step z t slot.0 object.0).tables
      (λ done. (release_places z t sized slot.0 object.0 done).sized) (λ other. (release_refused z t slot.0 object.0 other).tables)
  event_sized (Event.End slot tick rollback) list buffer =
      either_way (end_step z rollback t slot.0 tick buffer).reply.number (end_step z rollback t slot.0 tick buffer).tables
      (λ done. (end_places z t sized slot.0 tick buffer rollback done).sized) (λ other. (end_refused z t rollback slot.0 tick buffer other).tables)

  pub fields_sized : (fields : Fields) (list buffer : List ℕ) → Sized z (fields_step z t fields list buffer).tables
  fields_sized (Fields.Fresh first) list buffer = sized
  fields_sized (Fields.Event event) list buffer = event_sized event list buffer
  fields_sized (Fields.Ended tick slot rollback) list buffer = sized

  read_sized : (read : Reading) (list buffer : List ℕ) → Sized z (read_step z t read list buffer).tables
  read_sized (Ok read) list buffer = fields_sized read.fields list buffer
  read_sized (Err refusal) list buffer = sized

  pub record_sized : (bytes buffer : List ℕ) → Sized z (record_step z t bytes buffer).tables
  record_sized bytes buffer = read_sized (reading z bytes) (listing z bytes) buffer
