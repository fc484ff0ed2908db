-- However the input is cut into pieces and however small the buffer of lines, the lines are those of the whole input.
use Rattle.std.proofs.Common.{◌≡◌, ℕ, zero, suc, ◌+◌, Bool, true, false, List, [], ◌∷◌, ◌++◌, length, drop, sym, refl, ap, ◌∙◌, append_assoc, append-nil, drop-drop}
use lib.Seq.{drop-append-le}
use Rattle.answers.specs.Order.{pick}
use Rattle.counters.specs.Sizes.{base}
use Rattle.bench_records.specs.Records.{Answering}
use Rattle.bench_play.specs.Bench.{Stage, answer_at, printed_for, stage_behind, Playing, not_played, played_before, played_while, until_stopped, lines_from, bench_output}
use Rattle.bench_play.specs.Pieces.{playable, piece_played}
use Rattle.bench_play.specs.Deliveries.{Delivery, Reached, reached_first, reached_by, reached_by_all, input, EndsOnce}
use Rattle.bench_play.proofs.Turns.{one_turn, no_turn, answer_advances}
use Rattle.bench_play.proofs.PieceTurns.{Ready, ready}
use Rattle.bench_play.proofs.Certain.{certain_same}

-- up to the end it does not matter what is printed already
used_free : (most : ℕ) (stage : Stage) (bytes : List ℕ) (x y : ℕ) → played_while base until_stopped most stage bytes x ≡ played_while base until_stopped most stage bytes y
unfolding played_while
used_free zero stage bytes x y = refl
used_free (suc most) stage bytes x y =
    let here : Answering = answer_at base stage bytes in
    let line : List ℕ = printed_for stage here in
    ap (λ (rest : Playing). pick (until_stopped stage bytes x) (played_before here.taken line rest) (not_played stage))
    (used_free most (stage_behind stage here) (drop here.taken bytes) (x + length line) (y + length line))

stopped_ends : (stage : Stage) (bytes : List ℕ) (used : ℕ) → stage.stopped ≡ true → until_stopped stage bytes used ≡ false
stopped_ends stage bytes used e = rw e

pub lines_turn : (stage : Stage) (bytes : List ℕ) → stage.stopped ≡ false
    → (let here : Answering = answer_at base stage bytes in
    lines_from stage bytes ≡ printed_for stage here ++ lines_from (stage_behind stage here) (drop here.taken bytes))
lines_turn stage bytes running =
    let here : Answering = answer_at base stage bytes in
    let line : List ℕ = printed_for stage here in
    let rest : List ℕ = drop here.taken bytes in
    let on : until_stopped stage bytes 0 ≡ true = rw running in
    ap (λ (p : Playing). p.lines) (one_turn until_stopped stopped_ends stage bytes 0 on)
    ∙ ap (λ (p : Playing). line ++ p.lines) (used_free (length rest + 1) (stage_behind stage here) rest (0 + length line) 0)

pub no_lines : (stage : Stage) (bytes : List ℕ) → stage.stopped ≡ true → lines_from stage bytes ≡ []
no_lines stage bytes stopped = ap (λ (p : Playing). p.lines) (no_turn until_stopped stopped_ends stage bytes 0 (stopped_ends stage bytes 0 stopped))

-- what is played of some bytes, and then the lines of the rest, are the lines of the whole
abbrev pub Joins : List ℕ → Stage → List ℕ → Playing → Type 0
Joins behind stage bytes played = lines_from stage (bytes ++ behind) ≡ played.lines ++ lines_from played.stage (drop played.taken bytes ++ behind)

module _ (ended : Bool) (room : ℕ) (behind : List ℕ) (last : ended ≡ true → behind ≡ []) where
  turn_joins : (stage : Stage) (bytes : List ℕ) (used : ℕ) (played : Playing)
      → (let here : Answering = answer_at base stage bytes in
      playable base ended room stage bytes used ≡ true
      → Joins behind (stage_behind stage here) (drop here.taken bytes) played
      → Joins behind stage bytes (played_before here.taken (printed_for stage here) played))
  turn_joins stage bytes used played on joins =
      let here : Answering = answer_at base stage bytes in
      let line : List ℕ = printed_for stage here in
      let next : Stage = stage_behind stage here in
      let rest : List ℕ = drop here.taken bytes in
      let sure : Ready ended room stage bytes used = ready ended room stage bytes used on in
      lines_turn stage (bytes ++ behind) sure.running
      ∙ ap (λ (a : Answering). printed_for stage a ++ lines_from (stage_behind stage a) (drop a.taken (bytes ++ behind)))
      (certain_same ended stage bytes behind sure.sure last)
      ∙ ap (λ (l : List ℕ). line ++ lines_from next l) (drop-append-le here.taken bytes behind (answer_advances stage bytes).inside)
      ∙ ap (λ (l : List ℕ). line ++ l) joins
      ∙ sym (append_assoc line played.lines (lines_from played.stage (drop played.taken rest ++ behind)))
      ∙ ap (λ (l : List ℕ). (line ++ played.lines) ++ lines_from played.stage (l ++ behind)) (drop-drop played.taken here.taken bytes)

  some_played : (most : ℕ) (stage : Stage) (bytes : List ℕ) (used : ℕ) → Joins behind stage bytes (played_while base (playable base ended room) most stage bytes used)
  unfolding played_while
  some_played zero stage bytes used = refl
  some_played (suc most) stage bytes used =
      let here : Answering = answer_at base stage bytes in
      let rest : List ℕ = drop here.taken bytes in
      let printed : ℕ = used + length (printed_for stage here) in
      go (playable base ended room stage bytes used) refl (played_while base (playable base ended room) most (stage_behind stage here) rest printed)
      (some_played most (stage_behind stage here) rest printed)
    where
      go : (on : Bool) → playable base ended room stage bytes used ≡ on → (played : Playing)
          → (let here : Answering = answer_at base stage bytes in
          Joins behind (stage_behind stage here) (drop here.taken bytes) played
          → Joins behind stage bytes (pick on (played_before here.taken (printed_for stage here) played) (not_played stage)))
      go true e played joins = turn_joins stage bytes used played e joins
      go false e played joins = refl

  -- the lines of a piece, and then those of what is left
  pub piece_joins : (stage : Stage) (bytes : List ℕ) → Joins behind stage bytes (piece_played ended room stage bytes)
  piece_joins stage bytes = some_played (length bytes + 1) stage bytes 0

-- whatever was delivered: what is written, and then the lines of what is left, are the lines of the whole
deliveries_join : (from : Reached) (deliveries : List Delivery) (behind : List ℕ) → EndsOnce deliveries behind
    → (let to : Reached = reached_by_all from deliveries in
    to.written ++ lines_from to.stage (to.hand ++ behind) ≡ from.written ++ lines_from from.stage (from.hand ++ input deliveries behind))
deliveries_join from [] behind order = refl
deliveries_join from (delivery ∷ deliveries) behind order =
    let rest : List ℕ = input deliveries behind in
    let bytes : List ℕ = from.hand ++ delivery.piece in
    let played : Playing = piece_played delivery.ended delivery.room from.stage bytes in
    deliveries_join (reached_by from delivery) deliveries behind order.1
    ∙ append_assoc from.written played.lines (lines_from played.stage (drop played.taken bytes ++ rest))
    ∙ ap (λ (l : List ℕ). from.written ++ l)
    (sym (piece_joins delivery.ended delivery.room rest order.0 from.stage bytes)
    ∙ ap (lines_from from.stage) (append_assoc from.hand delivery.piece rest))

pub however_delivered : (deliveries : List Delivery) (behind : List ℕ) → EndsOnce deliveries behind
    → (let to : Reached = reached_by_all reached_first deliveries in
    to.written ++ lines_from to.stage (to.hand ++ behind) ≡ bench_output (input deliveries behind))
however_delivered deliveries behind order = deliveries_join reached_first deliveries behind order

-- and once the bench has stopped, all of them are written
pub all_written : (deliveries : List Delivery) (behind : List ℕ) → EndsOnce deliveries behind
    → (let to : Reached = reached_by_all reached_first deliveries in
    to.stage.stopped ≡ true → to.written ≡ bench_output (input deliveries behind))
all_written deliveries behind order stopped =
    let to : Reached = reached_by_all reached_first deliveries in
    sym (append-nil to.written)
    ∙ ap (λ (l : List ℕ). to.written ++ l) (sym (no_lines to.stage (to.hand ++ behind) stopped))
    ∙ however_delivered deliveries behind order
