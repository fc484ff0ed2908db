-- A record takes bytes that are there.
use Rattle.record_layout.specs.Reading.{read_as, reading, listing, Reading}
use Rattle.std.specs.Prelude.{Err, Ok}
use Prim.Native.Nat.{ℕ, ◌≤◌}
use mathlib.Core.List.{List}
use mathlib.Core.Path.{◌≡◌, refl}
use native.Mathlib.Omega.{arith}
use lib.ListN.{length}
use Rattle.counters.specs.Sizes.{Size}
use Rattle.record_layout.specs.declared.fields.Fields.{Fields}
use Rattle.record_layout.proofs.WriteBack as read_back
use Rattle.bench_records.specs.Records.{taken_by, first_read, first_step, first_fields}

pub taken_inside : (z : Size) (bytes : List ℕ) → taken_by (reading z bytes) ≤ length bytes
taken_inside z bytes = go (reading z bytes) refl
  where
    go : (read : Reading) → reading z bytes ≡ read → taken_by read ≤ length bytes
    go (Ok read) e = read_back.taken_inside z bytes read.fields read.list read.taken e
    go (Err refusal) e = omega arith

pub first_inside : (z : Size) (bytes : List ℕ) → (first_step z bytes).taken ≤ length bytes
first_inside z bytes = go (reading z bytes) refl
  where
    opens : (fields : Fields) (at taken : ℕ) → reading z bytes ≡ read_as fields at taken → (first_fields z fields (listing z bytes) taken).taken ≤ length bytes
    opens (Fields.Fresh first) at taken e = read_back.taken_inside z bytes (Fields.Fresh first) at taken e
    opens (Fields.Event event) at taken e = omega arith
    opens (Fields.Ended tick slot rollback) at taken e = omega arith

    go : (read : Reading) → reading z bytes ≡ read → (first_read z read (listing z bytes)).taken ≤ length bytes
    go (Ok read) e = opens read.fields read.list read.taken e
    go (Err refusal) e = omega arith
