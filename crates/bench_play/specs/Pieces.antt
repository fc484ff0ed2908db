-- The bench piece by piece: the records of a piece of the input that are certain to be whole, into a lent buffer of lines.
use Rattle.std.specs.Prelude.{ℕ, ◌+◌, ◌-◌, Bool, not, ◌&&◌, ◌||◌, List, ◌++◌, length, drop, nat_le, nat_lt}
use Rattle.counters.specs.Sizes.{Size, base}
use Rattle.record_layout.specs.Kinds.{body_limit}
use Rattle.record_layout.specs.Reading.{length_field}
use Rattle.machine.specs.Views.{view}
use Rattle.bench_lines.specs.Buffers.{Lent, lent}
use Rattle.bench_lines.specs.Lines.{line_limit}
use Rattle.bench_play.specs.Bench.{Stage, Playing, all_played}
use Rattle.bench_play.specs.declared.Bench.{Bench}
use Rattle.bench_play.specs.declared.Played.{Played}

-- whether no byte behind these can change what is read here: the record is all there, or its length is over the limit
abbrev pub whole : Size → List ℕ → Bool
whole z bytes = nat_le 4 (length bytes) && (nat_lt (body_limit z) (length_field bytes) || nat_le (4 + length_field bytes) (length bytes))

-- at the end of the input that is so of any bytes
abbrev pub certain : Size → Bool → List ℕ → Bool
certain z ended bytes = ended || whole z bytes

-- a record is played where the program goes on, it is certain, and the buffer of lines has room for the longest line
abbrev pub playable : Size → Bool → ℕ → Stage → List ℕ → ℕ → Bool
playable z ended room stage bytes used = not stage.stopped && (certain z ended bytes && nat_le line_limit (room - used))

abbrev pub piece_played : Bool → ℕ → Stage → List ℕ → Playing
piece_played ended room stage bytes = all_played (playable base ended room) stage bytes 0

abbrev pub stage_of : Bench → Stage
stage_of bench = record { tables = view bench.tables; begun = bench.begun; event = bench.event; stopped = bench.stopped }

-- all that a caller sees of a played piece: the stage, the bytes taken, the count of the lines' bytes and all of the lent buffer
pub record Written : Type 0 where
  pub stage : Stage
  pub taken : ℕ
  pub lines : Lent

abbrev pub written : Played → List ℕ → Written
written played buffer = record { stage = stage_of played.bench; taken = played.taken; lines = lent played.used buffer }

-- the lines stand in front, and behind them the buffer is as it was
abbrev pub written_into : List ℕ → Playing → Written
written_into buffer playing =
    record {
      stage = playing.stage;
      taken = playing.taken;
      lines = lent (length playing.lines) (playing.lines ++ drop (length playing.lines) buffer);
    }
