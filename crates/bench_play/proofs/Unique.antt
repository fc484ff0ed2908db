-- No second answer fits a promise: what a caller sees fixes the memory, every other part of the bench, the counts and every byte of the buffers.
use Rattle.std.proofs.Common.{◌≡◌, ℕ, List, ap}
use Rattle.machine.proofs.Unique.{Typed, view_tells}
use Rattle.bench_play.specs.Bench.{Stage}
use Rattle.bench_play.specs.Pieces.{stage_of, Written, written}
use Rattle.bench_play.specs.Turns.{Turning, turned}
use Rattle.bench_play.specs.declared.Bench.{Bench}
use Rattle.bench_play.specs.declared.Played.{Played}
use Rattle.bench_play.specs.declared.Turned.{Turned}

pub stage_tells : (bench other : Bench) → Typed bench.tables → Typed other.tables → stage_of bench ≡ stage_of other → bench ≡ other
stage_tells bench other right right' e =
    λ i.
    record {
      tables = view_tells bench.tables other.tables right right' (ap (λ (stage : Stage). stage.tables) e) i;
      begun = (e i).begun;
      event = (e i).event;
      stopped = (e i).stopped;
    }

pub written_tells : (r other : Played) (lines lines' : List ℕ) → Typed r.bench.tables → Typed other.bench.tables
    → written r lines ≡ written other lines' → (r ≡ other) × (lines ≡ lines')
written_tells r other lines lines' right right' e = (
  λ i.
      record {
        bench = stage_tells r.bench other.bench right right' (ap (λ (w : Written). w.stage) e) i;
        taken = (e i).taken;
        used = (e i).lines.count;
      },
  ap (λ (w : Written). w.lines.buffer) e,
)

pub turned_tells : (r other : Turned) (bytes bytes' lines lines' : List ℕ) → Typed r.bench.tables → Typed other.bench.tables
    → turned r bytes lines ≡ turned other bytes' lines' → (r ≡ other) × (bytes ≡ bytes') × (lines ≡ lines')
turned_tells r other bytes bytes' lines lines' right right' e = (
  λ i.
      record {
        bench = stage_tells r.bench other.bench right right' (ap (λ (t : Turning). t.stage) e) i;
        kept = (e i).bytes.count;
        used = (e i).lines.count;
        waits = (e i).waits;
      },
  ap (λ (t : Turning). t.bytes.buffer) e,
  ap (λ (t : Turning). t.lines.buffer) e,
)
