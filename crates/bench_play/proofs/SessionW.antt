-- Session W as the bytes of its input, and the bytes of its twelve lines.
use Rattle.std.proofs.Common.{◌≡◌, refl}
use Rattle.rules.specs.Walks.{any_below, each_below, join_below}
use Rattle.bench_records.specs.Records.{words_of}
use Rattle.bench_lines.specs.Lines.{digits_of}
use Rattle.bench_play.specs.Bench.{played_while, bench_output}
use Rattle.bench_play.specs.SessionW.{input, output}

pub session_w : bench_output input ≡ output
unfolding any_below each_below join_below words_of digits_of played_while
session_w = refl
