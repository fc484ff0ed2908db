-- Where nothing of a piece is taken and the bench has not stopped, it waits for input: the input has not ended, and less than a longest record is at hand.
use Rattle.std.proofs.Common.{◌≡◌, ℕ, ◌+◌, ◌<◌, ◌≤◌, Bool, true, false, List, length, drop, sym, refl, ap, ◌∙◌, arith}
use Rattle.std.proofs.lemmas.Bool.{true≢false}
use Rattle.std.proofs.lemmas.Bool.Decides.{nat_tests}
use Rattle.counters.specs.Sizes.{base}
use Rattle.record_layout.specs.Kinds.{body_limit}
use Rattle.bench_lines.specs.Lines.{line_limit}
use Rattle.bench_records.specs.Records.{Answering}
use Rattle.bench_play.specs.Bench.{Stage, answer_at, printed_for, stage_behind, Playing, played_before, all_played}
use Rattle.bench_play.specs.Pieces.{whole, playable, piece_played}
use Rattle.bench_play.proofs.Turns.{answer_advances, one_turn, no_turn}
use Rattle.bench_play.proofs.PieceTurns.{stopped_plays_nothing}

pub record Waits (ended : Bool) (bytes : List ℕ) : Type 0 where
  pub going_on : ended ≡ false
  pub few : length bytes < 4 + body_limit base

torn_is_short : (bytes : List ℕ) → whole base bytes ≡ false → length bytes < 4 + body_limit base
torn_is_short bytes torn = grind (arith, nat_tests)

module _ (ended : Bool) (room : ℕ) (stage : Stage) (bytes : List ℕ) where
  -- what a record that is played comes to
  first_turn : playable base ended room stage bytes 0 ≡ true
      → (let here : Answering = answer_at base stage bytes in
      let line : List ℕ = printed_for stage here in
      piece_played ended room stage bytes
      ≡ played_before here.taken line (all_played (playable base ended room) (stage_behind stage here) (drop here.taken bytes) (0 + length line)))
  first_turn on = one_turn (playable base ended room) (stopped_plays_nothing ended room) stage bytes 0 on

  -- it takes bytes or stops the bench
  takes_or_stops : playable base ended room stage bytes 0 ≡ true → (piece_played ended room stage bytes).taken ≡ 0
      → (piece_played ended room stage bytes).stage.stopped ≡ true
  takes_or_stops on none = go (answer_at base stage bytes).stops refl
    where
      go : (stops : Bool) → (answer_at base stage bytes).stops ≡ stops → (piece_played ended room stage bytes).stage.stopped ≡ true
      go true e =
          let here : Answering = answer_at base stage bytes in
          let line : List ℕ = printed_for stage here in
          let goes : Stage → List ℕ → ℕ → Bool = playable base ended room in
          let rest : List ℕ = drop here.taken bytes in
          let off : goes (stage_behind stage here) rest (0 + length line) ≡ false = stopped_plays_nothing ended room (stage_behind stage here) rest (0 + length line) e in
          ap (λ (p : Playing). p.stage.stopped) (first_turn on)
          ∙ ap (λ (p : Playing). p.stage.stopped) (no_turn goes (stopped_plays_nothing ended room) (stage_behind stage here) rest (0 + length line) off)
          ∙ e
      go false e =
          absurd (omega (arith, (answer_advances stage bytes).takes e, none, ap (λ (p : Playing). p.taken) (first_turn on)))

  not_played_lem : playable base ended room stage bytes 0 ≡ false → stage.stopped ≡ false → line_limit ≤ room → Waits ended bytes
  not_played_lem off running roomy =
      record { going_on = grind (arith, nat_tests); few = torn_is_short bytes (grind (arith, nat_tests)) }

  pub waits_for_more : line_limit ≤ room → (piece_played ended room stage bytes).taken ≡ 0 → (piece_played ended room stage bytes).stage.stopped ≡ false → Waits ended bytes
  waits_for_more roomy none running = go (playable base ended room stage bytes 0) refl
    where
      go : (on : Bool) → playable base ended room stage bytes 0 ≡ on → Waits ended bytes
      go true e = absurd (true≢false (sym (takes_or_stops e none) ∙ running))
      go false e =
          let same : stage.stopped ≡ false =
          ap (λ (p : Playing). p.stage.stopped) (sym (no_turn (playable base ended room) (stopped_plays_nothing ended room) stage bytes 0 e)) ∙ running in
          not_played_lem e same roomy
