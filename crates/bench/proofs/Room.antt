-- Where a turn waits for input, there is room to read into: less than a longest record stays at hand.
use Rattle.std.proofs.Common.{◌≡◌, ℕ, ◌+◌, ◌<◌, ◌≤◌, Bool, true, false, List, length, sym, ap, ◌∙◌, arith, eqb-true, length-drop}
use Rattle.counters.specs.Sizes.{base}
use Rattle.record_layout.specs.Kinds.{body_limit}
use Rattle.bench_lines.specs.Lines.{line_limit}
use Rattle.bench_play.specs.Bench.{Stage, Playing}
use Rattle.bench_play.specs.Pieces.{piece_played}
use Rattle.bench_play.specs.Turns.{Turning, turned, turn_of}
use Rattle.bench_play.specs.declared.Turned.{Turned}
use Rattle.bench_play.proofs.Waiting.{waits_for_more}

pub few_stay : (turn : Turned) (ended : Bool) (stage : Stage) (bytes left lines printed : List ℕ)
    → turned turn left printed ≡ turn_of ended stage bytes lines → line_limit ≤ length lines
    → turn.waits ≡ true → turn.bench.stopped ≡ false → turn.kept < 4 + body_limit base
few_stay turn ended stage bytes left lines printed turns roomy waits running =
    let played : Playing = piece_played ended (length lines) stage bytes in
    let none : played.taken ≡ 0 = eqb-true played.taken 0 (ap (λ (t : Turning). t.waits) (sym turns) ∙ waits) in
    let going : played.stage.stopped ≡ false = ap (λ (t : Turning). t.stage.stopped) (sym turns) ∙ running in
    let few : length bytes < 4 + body_limit base = (waits_for_more ended (length lines) stage bytes roomy none going).few in
    omega (arith, few, none, ap (λ (t : Turning). t.bytes.count) turns, length-drop played.taken bytes)
