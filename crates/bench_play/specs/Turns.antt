-- A turn of the program: it plays what is at hand, and what is not taken stands in front of the bytes that come.
use Rattle.std.specs.Prelude.{ℕ, Bool, List, length, ◌==◌}
use Rattle.bench_lines.specs.Buffers.{Lent, lent, moved_to_front}
use Rattle.bench_play.specs.Bench.{Stage, Playing}
use Rattle.bench_play.specs.Pieces.{piece_played, stage_of, written_into}
use Rattle.bench_play.specs.declared.Turned.{Turned}

-- all that a caller sees of it
pub record Turning : Type 0 where
  pub stage : Stage
  pub bytes : Lent
  pub lines : Lent
  pub waits : Bool

abbrev pub turned : Turned → List ℕ → List ℕ → Turning
turned turn bytes lines =
    record { stage = stage_of turn.bench; bytes = lent turn.kept bytes; lines = lent turn.used lines; waits = turn.waits }

-- where nothing is taken it waits for input
abbrev pub turn_of : Bool → Stage → List ℕ → List ℕ → Turning
turn_of ended stage bytes lines =
    let played : Playing = piece_played ended (length lines) stage bytes in
    record {
      stage = played.stage;
      bytes = moved_to_front bytes played.taken;
      lines = (written_into lines played).lines;
      waits = (played.taken == 0);
    }
