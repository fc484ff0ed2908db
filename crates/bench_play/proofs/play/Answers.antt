use Rattle.std.proofs.Common.{◌≡◌, ℕ, ◌+◌, ◌-◌, ◌<◌, ◌≤◌, Bool, true, not, ◌&&◌, leb, Option, None, Some, is_some, unwrap_or, option_map, List, [], length, take, drop, sym, refl, ap, subst, ◌∙◌, arith, rules}
use Rattle.std.proofs.lemmas.List.{take_rest}
use Rattle.answers.specs.Numbers.{reply_of, Answer}
use Rattle.answers.specs.declared.Reply.{Reply}
use Rattle.answers.specs.Order.{pick}
use Rattle.counters.specs.Sizes.{base}
use Rattle.machine.specs.Views.{view}
use Rattle.bench_lines.specs.Buffers.{Lent, lent, put_at}
use Rattle.bench_lines.specs.Lines.{line_of, line_limit}
use Rattle.bench_lines.proofs.Making.{in_place}
use Rattle.bench_records.specs.Records.{Answering, answered}
use Rattle.bench_records.specs.declared.Answered.{Answered}
use Rattle.bench_play.specs.Bench.{Stage, answer_at, printed_for, stage_behind, all_played}
use Rattle.bench_play.specs.Pieces.{certain, playable, stage_of}
use Rattle.bench_play.specs.Serving.Answers.{unprinted, line_for}
use Rattle.bench_play.specs.declared.Bench.{Bench}
use Rattle.bench_play.proofs.PieceTurns.{ready, stopped_plays_nothing, turned, taken_there, turn_goes_on}
use Rattle.bench_play.proofs.Turns.{no_turn}
use Rattle.bench_play.proofs.Writing.{placed, placed_long, written_behind, none_written}
use Rattle.bench_play.proofs.play.Goals as goal

line_is : (event : ℕ) (none : Reply) (line : Option Answer)
    → pick (is_some line) (line_of event (unwrap_or (option_map reply_of line) none)) [] ≡ line_for event line
line_is event none None = refl
line_is event none (Some answer) = refl

-- a turn, from the bench, the bytes and the lines at its start
module _ (ended : Bool) (room : ℕ) (bench : Bench) (bytes lines : List ℕ) (taken used : ℕ) (long : length lines ≡ room) where
  abbrev stage : Stage
  stage = stage_of bench

  abbrev rest : List ℕ
  rest = drop taken bytes

  -- the bytes as the code hands them on
  abbrev handed : List ℕ
  handed = take (length bytes - taken) rest

  -- the test of the loop is that of the definition
  tested : {test on : Bool} → test ≡ (not stage.stopped && (certain base ended handed && leb line_limit (length lines - used)))
      → test ≡ on → playable base ended room stage rest used ≡ on
  tested told is =
      sym (told ∙ (λ i. not stage.stopped && (certain base ended (take_rest bytes taken i) && leb line_limit (long i - used)))) ∙ is

  -- what the record gives, and the bench behind it
  module _ (gave : Answered) (now : Bench) (given : answered (unprinted bench.begun) (view now.tables) gave ≡ answer_at base stage handed) where
    abbrev here : Answering
    here = answered (unprinted bench.begun) (view now.tables) gave

    same : here ≡ answer_at base stage rest
    same = given ∙ ap (answer_at base stage) (take_rest bytes taken)

    there : taken ≤ length bytes → taken + gave.taken ≤ length bytes
    there inside = taken_there ended room stage bytes lines taken used here same inside

    goes_on : taken ≤ length bytes → playable base ended room stage rest used ≡ true → stage_of now ≡ stage_behind stage (answer_at base stage handed)
        → length bytes - (taken + gave.taken) + pick now.stopped 0 1 < length bytes - taken + pick bench.stopped 0 1
    goes_on inside on behind =
        let stopped : gave.stops ≡ now.stopped = ap (λ (a : Answering). a.stops) given ∙ ap (λ (s : Stage). s.stopped) (sym behind) in
        subst (λ (stops : Bool). length bytes - (taken + gave.taken) + pick stops 0 1 < length bytes - taken + pick bench.stopped 0 1) stopped
        (turn_goes_on ended room stage bytes lines taken used here same inside (ready ended room stage rest used on).running)

    -- what it leaves to the turns behind it
    record Behind (count : ℕ) (buffer : List ℕ) : Type 0 where
      within : used + count ≤ room
      as_long : length buffer ≡ room
      written : (let goes : Stage → List ℕ → ℕ → Bool = playable base ended room in
          written_behind lines taken used (all_played goes stage rest used)
          ≡ written_behind buffer (taken + gave.taken) (used + count) (all_played goes (stage_of now) (drop (taken + gave.taken) bytes) (used + count)))

    played : (count : ℕ) (buffer : List ℕ) → used ≤ room → playable base ended room stage rest used ≡ true
        → stage_of now ≡ stage_behind stage (answer_at base stage handed) → length (line_for bench.event gave.line) ≤ line_limit
        → lent count buffer ≡ put_at (line_for bench.event gave.line) lines used → Behind count buffer
    played count buffer within on behind short put =
        let goes : Stage → List ℕ → ℕ → Bool = playable base ended room in
        let line : List ℕ = printed_for stage here in
        let is : line ≡ line_for bench.event gave.line = line_is bench.event (unprinted bench.begun) gave.line in
        let few : length line ≤ line_limit = rw is short in
        let roomy : line_limit ≤ room - used = (ready ended room stage rest used on).roomy in
        let fits : used + length line ≤ length lines = omega arith in
        let placed_line : lent count buffer ≡ lent (length line) (placed lines used line) =
        put ∙ ap (λ (l : List ℕ). put_at l lines used) (sym is) ∙ in_place line lines used fits in
        let counted : count ≡ length line = ap (λ (l : Lent). l.count) placed_line in
        let filled : buffer ≡ placed lines used line = ap (λ (l : Lent). l.buffer) placed_line in
        let next : stage_of now ≡ stage_behind stage here = behind ∙ ap (stage_behind stage) (sym given) in
        record {
          within = omega arith;
          as_long = ap length filled ∙ placed_long lines line [] used fits ∙ long;
          written =
              turned ended room stage bytes lines taken used here same long within on few
              ∙ (λ i. let n : ℕ = used + sym counted i in
              written_behind (sym filled i) (taken + gave.taken) n (all_played goes (sym next i) (drop (taken + gave.taken) bytes) n));
        }

pub overflow_add-taken : goal.overflow_add-taken
overflow_add-taken c =
    let a = c.args in
    let turn = c.loop-event in
    let one = c.record-here in
    let there = there a.ended (length a.lines.now) turn.bench a.bytes.now turn.lines turn.taken turn.used turn.invariant.long
    one.result one.new.self one.ensures.given turn.invariant.inside in
    search rules

pub loop-event-smaller : goal.loop-event-smaller
loop-event-smaller c =
    let a = c.args in
    let turn = c.loop-event in
    let one = c.record-here in
    let room = length a.lines.now in
    let on = tested a.ended room turn.bench a.bytes.now turn.lines turn.taken turn.used turn.invariant.long c.playable.ensures c.loop-event-test.true in
    goes_on a.ended room turn.bench a.bytes.now turn.lines turn.taken turn.used turn.invariant.long one.result one.new.self one.ensures.given
    turn.invariant.inside on one.ensures.behind

pub loop-event-preserved : goal.loop-event-preserved
loop-event-preserved c =
    let a = c.args in
    let turn = c.loop-event in
    let one = c.record-here in
    let put = c.put-used in
    let room = length a.lines.now in
    let on = tested a.ended room turn.bench a.bytes.now turn.lines turn.taken turn.used turn.invariant.long c.playable.ensures c.loop-event-test.true in
    let behind =
    played a.ended room turn.bench a.bytes.now turn.lines turn.taken turn.used turn.invariant.long one.result one.new.self one.ensures.given
    put.result put.new.lines turn.invariant.within on one.ensures.behind put.ensures.short put.ensures.lines_after in
    record {
      inside = there a.ended room turn.bench a.bytes.now turn.lines turn.taken turn.used turn.invariant.long one.result one.new.self one.ensures.given turn.invariant.inside;
      within = behind.within;
      long = behind.as_long;
      whole = turn.invariant.whole ∙ behind.written;
    }

pub returns : goal.returns
returns c =
    let a = c.args in
    let turn = c.loop-event in
    let room = length a.lines.now in
    let off = tested a.ended room turn.bench a.bytes.now turn.lines turn.taken turn.used turn.invariant.long c.playable.ensures c.loop-event-test.false in
    let none = no_turn (playable base a.ended room) (stopped_plays_nothing a.ended room) (stage_of turn.bench) (drop turn.taken a.bytes.now) turn.used off in
    sym (turn.invariant.whole ∙ ap (written_behind turn.lines turn.taken turn.used) none ∙ none_written turn.lines turn.taken turn.used (stage_of turn.bench))
