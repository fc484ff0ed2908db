-- What is written so far, and behind it what is still to be played, is always the whole.
use Rattle.std.proofs.Common.{◌≡◌, ◌+◌, ◌-◌, ◌≤◌, length, drop}
use Rattle.answers.specs.Order.{pick}
use Rattle.counters.specs.Sizes.{base}
use Rattle.bench_play.specs.Bench.{all_played}
use Rattle.bench_play.specs.Pieces.{playable, piece_played, stage_of, written_into}
use Rattle.bench_play.proofs.Writing.{written_behind}
use Rattle.bench_play.proofs.play.Given as goal

abbrev pub invariant-loop-event : goal.invariant-loop-event
invariant-loop-event l =
    record {
      inside : l.taken ≤ length l.bytes;
      within : l.used ≤ length l.initial.lines;
      long : length l.lines ≡ length l.initial.lines;
      whole : written_into l.initial.lines (piece_played l.ended (length l.initial.lines) (stage_of l.initial.bench) l.bytes)
          ≡ written_behind l.lines l.taken l.used
          (all_played (playable base l.ended (length l.initial.lines)) (stage_of l.bench) (drop l.taken l.bytes) l.used);
    }

abbrev pub decreases-loop-event : goal.decreases-loop-event
decreases-loop-event l = length l.bytes - l.taken + pick l.bench.stopped 0 1
