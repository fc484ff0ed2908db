-- A turn of the bench is an event of the rules' run, and so are all that follow.
use Prim.Native.Nat.{ℕ, zero, suc, ◌+◌}
use mathlib.Core.Bool.{Bool, true, false}
use mathlib.Core.List.{List, [], ◌∷◌, ◌++◌, map}
use mathlib.Core.Path.{◌≡◌, refl, sym, ap, subst, ◌∙◌}
use native.Mathlib.Omega.{arith}
use lib.Dec.{ltb}
use lib.ListN.{length, drop}
use borrow.Author.Tests.{lt-ltb}
use Rattle.answers.specs.Order.{pick}
use Rattle.counters.specs.Sizes.{base}
use Rattle.rules.specs.Tables.{State}
use Rattle.rules.specs.Steps.{Outcome}
use Rattle.rules.specs.Events.{outcome_of}
use Rattle.runs.specs.Histories.{History, noted}
use Rattle.runs.specs.Runs.{run_from}
use Rattle.code_runs.specs.Chains.{handed_of}
use Rattle.code_runs.proofs.Chains.{record_is_event}
use Rattle.bench_records.specs.Records.{Answering, end_buffer, first_step, bench_step}
use Rattle.bench_lines.specs.Lines.{line_of}
use Rattle.bench_play.specs.Bench.{Stage, answer_at, printed_for, stage_behind, Playing, not_played, played_before, played_while, until_stopped}
use Rattle.bench_play.proofs.Turns.{halted, turn_unfolds}
use Rattle.bench_runs.specs.Path.{Place, behind, hands_on, places_from, event_at, reply_at, replies_from, lines_of}

-- the bench's answer is what the rules' step gives
record IsStep (here : Answering) (outcome : Outcome) : Type 0 where
  pub tables : here.tables ≡ outcome.tables
  pub reply : here.reply ≡ outcome.reply

-- of the event in front of the bytes
step_of_bench : (t : State) (bytes : List ℕ) → IsStep (bench_step base t bytes) (outcome_of base t (handed_of (record { bytes = bytes; buffer = end_buffer })))
step_of_bench t bytes =
    let same = record_is_event t (record { bytes = bytes; buffer = end_buffer }) in
    record { tables = ap (λ (outcome : Outcome). outcome.tables) same; reply = ap (λ (outcome : Outcome). outcome.reply) same }

-- behind the first record that is so at every place
begun_answer : (stage : Stage) (bytes : List ℕ) → stage.begun ≡ true → answer_at base stage bytes ≡ bench_step base stage.tables bytes
begun_answer stage bytes begun = ap (λ (b : Bool). pick b (bench_step base stage.tables bytes) (first_step base bytes)) begun

turn_is_step : (place : Place) → place.stage.begun ≡ true
    → IsStep (answer_at base place.stage place.left) (outcome_of base place.stage.tables (event_at place))
turn_is_step place begun =
    subst (λ (here : Answering). IsStep here (outcome_of base place.stage.tables (event_at place)))
    (sym (begun_answer place.stage place.left begun)) (step_of_bench place.stage.tables place.left)

-- a turn of a bench that goes on, and none of one that has stopped
pub played_turn : (turns : ℕ) (stage : Stage) (bytes : List ℕ) (used : ℕ) → stage.stopped ≡ false
    → (let here : Answering = answer_at base stage bytes in
    played_while base until_stopped (suc turns) stage bytes used
    ≡ played_before here.taken (printed_for stage here)
    (played_while base until_stopped turns (stage_behind stage here) (drop here.taken bytes) (used + length (printed_for stage here))))
played_turn turns stage bytes used going = turn_unfolds until_stopped (λ stage bytes used e. rw e) turns stage bytes used (rw going)

played_stopped : (turns : ℕ) (stage : Stage) (bytes : List ℕ) (used : ℕ) → stage.stopped ≡ true
    → played_while base until_stopped turns stage bytes used ≡ not_played stage
played_stopped turns stage bytes used e = halted until_stopped (λ stage bytes used e. rw e) turns stage bytes used (rw e)

-- the end of the input stops the bench with the tables as they are, and prints nothing
played_end : (turns : ℕ) (stage : Stage) (used : ℕ) → stage.begun ≡ true → stage.stopped ≡ false
    → played_while base until_stopped (suc turns) stage [] used ≡ not_played (stage_behind stage (bench_step base stage.tables []))
played_end turns stage used begun going =
    let ends : Answering = bench_step base stage.tables [] in
    played_turn turns stage [] used going
    ∙ ap (λ (a : Answering). played_before a.taken (printed_for stage a)
    (played_while base until_stopped turns (stage_behind stage a) (drop a.taken []) (used + length (printed_for stage a)))) (begun_answer stage [] begun)
    ∙ ap (played_before 0 []) (played_stopped turns (stage_behind stage ends) [] (used + 0) refl)

-- what is played from a place, and the places that hand on events: the tables and the replies are those of the rules' run over these events,
-- and the lines are those of the replies
pub record Follows (playing : Playing) (place : Place) (places : List Place) : Type 0 where
  pub tables : (history : History) → playing.stage.tables
      ≡ (run_from base (record { tables = place.stage.tables; history = history }) (map event_at places)).tables
  pub replies : map reply_at places ≡ replies_from place.stage.tables (map event_at places)
  pub lines : playing.lines ≡ lines_of place.stage.event (map reply_at places)

none_follow : (stage : Stage) (place : Place) → stage.tables ≡ place.stage.tables → Follows (not_played stage) place []
none_follow stage place same = record { tables = λ history. same; replies = refl; lines = refl }

one_follows : (place : Place) (rest : Playing) (places : List Place) → place.stage.begun ≡ true → Follows rest (behind place) places
    → (let here : Answering = answer_at base place.stage place.left in
    Follows (played_before here.taken (line_of place.stage.event here.reply) rest) place (place ∷ places))
one_follows place rest places begun follows =
    let step = turn_is_step place begun in
    let t : State = place.stage.tables in
    let outcome : Outcome = outcome_of base t (event_at place) in
    record {
      tables = λ history.
          let now : History = noted (event_at place) outcome.reply outcome.buffer history in
          follows.tables now
          ∙ ap (λ (s : State). (run_from base (record { tables = s; history = now }) (map event_at places)).tables) step.tables;
      replies =
          let behind-it = follows.replies
          ∙ ap (λ (s : State). replies_from s (map event_at places)) step.tables in
          λ i. step.reply i ∷ behind-it i;
      lines = ap (λ (l : List ℕ). line_of place.stage.event (reply_at place) ++ l) follows.lines;
    }

-- a place that hands on an event stands before those behind it
places_are : (turns : ℕ) (place : Place) (hands : Bool) → hands_on place ≡ hands
    → places_from (suc turns) place ≡ pick hands (place ∷ places_from turns (behind place)) []
places_are turns place hands e = ap (λ (b : Bool). pick b (place ∷ places_from turns (behind place)) []) e

same_follow : (place : Place) (playing playing' : Playing) (places places' : List Place) → playing ≡ playing' → places ≡ places'
    → Follows playing' place places' → Follows playing place places
same_follow place playing playing' places places' p q follows =
    subst (λ (x : Playing). Follows x place places) (sym p) (subst (λ (x : List Place). Follows playing' place x) (sym q) follows)

one_more : (turns : ℕ) (stage : Stage) (bytes : List ℕ) (used : ℕ) → stage.begun ≡ true → (stopped : Bool) → stage.stopped ≡ stopped
    → (let place : Place = record { stage = stage; left = bytes } in
    let line : List ℕ = printed_for stage (answer_at base stage bytes) in
    Follows (played_while base until_stopped turns (behind place).stage (behind place).left (used + length line)) (behind place) (places_from turns (behind place))
    → Follows (played_while base until_stopped (suc turns) stage bytes used) place (places_from (suc turns) place))
one_more turns stage bytes used begun true e follows =
    let place : Place = record { stage = stage; left = bytes } in
    same_follow place _ _ _ _ (played_stopped (suc turns) stage bytes used e) (places_are turns place false (rw e)) (none_follow stage place refl)
one_more turns stage [] used begun false e follows =
    let place : Place = record { stage = stage; left = [] } in
    same_follow place _ _ _ _ (played_end turns stage used begun e) (places_are turns place false (rw e))
    (none_follow (stage_behind stage (bench_step base stage.tables [])) place refl)
one_more turns stage (byte ∷ bytes) used begun false e follows =
    let place : Place = record { stage = stage; left = byte ∷ bytes } in
    let here : Answering = answer_at base stage (byte ∷ bytes) in
    let rest : Playing = played_while base until_stopped turns (behind place).stage (behind place).left (used + length (printed_for stage here)) in
    let some : ltb 0 (length (byte ∷ bytes)) ≡ true = lt-ltb 0 (length (byte ∷ bytes)) (omega arith) in
    let prints : here.prints ≡ true = ap (λ (a : Answering). a.prints) (begun_answer stage (byte ∷ bytes) begun) ∙ some in
    same_follow place _ _ _ _
    (played_turn turns stage (byte ∷ bytes) used e
    ∙ ap (λ (b : Bool). played_before here.taken (pick b (line_of stage.event here.reply) []) rest) prints)
    (places_are turns place true (rw e some))
    (one_follows place rest (places_from turns (behind place)) begun follows)

-- so it is of any number of turns
pub turns_follow : (turns : ℕ) (stage : Stage) (bytes : List ℕ) (used : ℕ) → stage.begun ≡ true
    → (let place : Place = record { stage = stage; left = bytes } in
    Follows (played_while base until_stopped turns stage bytes used) place (places_from turns place))
unfolding played_while
turns_follow zero stage bytes used begun = none_follow stage (record { stage = stage; left = bytes }) refl
turns_follow (suc turns) stage bytes used begun =
    let place : Place = record { stage = stage; left = bytes } in
    let line : List ℕ = printed_for stage (answer_at base stage bytes) in
    one_more turns stage bytes used begun stage.stopped refl (turns_follow turns (behind place).stage (behind place).left (used + length line) refl)
