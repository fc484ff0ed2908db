-- Where the program waits for input, there is room behind the bytes that stay at hand.
use Rattle.std.proofs.Common.{ℕ, arith, take, length-append, length-drop}
use Rattle.bench_play.specs.Pieces.{stage_of}
use Rattle.bench.proofs.Room.{few_stay}
use Rattle.bench.proofs.run.Goals as goal

pub more-requires : goal.more-requires
more-requires c =
    let at = c.loop in
    let turn = c.turn-turned in
    let few = few_stay turn.result at.ended (stage_of at.bench) (take at.hand at.bytes) turn.new.bytes at.lines turn.new.lines turn.ensures
    (omega arith) c.if-turned.true cc in
    omega (arith, few, length-append {A = ℕ}, length-drop {A = ℕ})
