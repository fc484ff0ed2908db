-- One turn over a piece: what it writes, and what is left to be played.
use Rattle.std.proofs.Common.{◌≡◌, ℕ, ◌+◌, ◌-◌, ◌<◌, ◌≤◌, Bool, true, false, List, length, drop, sym, refl, ap, ◌∙◌, arith, length-drop, drop-drop}
use Rattle.std.proofs.lemmas.Bool.Decides.{nat_tests}
use Rattle.answers.specs.Order.{pick}
use Rattle.counters.specs.Sizes.{base}
use Rattle.bench_lines.specs.Lines.{line_limit}
use Rattle.bench_records.specs.Records.{Answering}
use Rattle.bench_play.specs.Bench.{Stage, answer_at, printed_for, stage_behind, Playing, played_before, all_played}
use Rattle.bench_play.specs.Pieces.{certain, playable}
use Rattle.bench_play.proofs.Turns.{answer_advances, one_turn}
use Rattle.bench_play.proofs.Writing.{placed, written_behind, one_written}

-- what it means that a record is played
pub record Ready (ended : Bool) (room : ℕ) (stage : Stage) (bytes : List ℕ) (used : ℕ) : Type 0 where
  pub running : stage.stopped ≡ false
  pub sure : certain base ended bytes ≡ true
  pub roomy : line_limit ≤ room - used

pub ready : (ended : Bool) (room : ℕ) (stage : Stage) (bytes : List ℕ) (used : ℕ)
    → playable base ended room stage bytes used ≡ true → Ready ended room stage bytes used
ready ended room stage bytes used on =
    record { running = grind (arith, nat_tests); sure = grind (arith, nat_tests); roomy = grind (arith, nat_tests) }

-- a stopped bench plays nothing
pub stopped_plays_nothing : (ended : Bool) (room : ℕ) (stage : Stage) (bytes : List ℕ) (used : ℕ)
    → stage.stopped ≡ true → playable base ended room stage bytes used ≡ false
stopped_plays_nothing ended room stage bytes used e = rw e

module _ (ended : Bool) (room : ℕ) (stage : Stage) (bytes buffer : List ℕ) (taken used : ℕ) (here : Answering)
    (told : here ≡ answer_at base stage (drop taken bytes)) where
  pub turned : length buffer ≡ room → used ≤ room → playable base ended room stage (drop taken bytes) used ≡ true
      → length (printed_for stage here) ≤ line_limit
      → written_behind buffer taken used (all_played (playable base ended room) stage (drop taken bytes) used)
      ≡ written_behind (placed buffer used (printed_for stage here)) (taken + here.taken) (used + length (printed_for stage here))
      (all_played (playable base ended room) (stage_behind stage here) (drop (taken + here.taken) bytes) (used + length (printed_for stage here)))
  turned long inside on short =
      let goes : Stage → List ℕ → ℕ → Bool = playable base ended room in
      let line : List ℕ = printed_for stage here in
      let rest : Playing = all_played goes (stage_behind stage here) (drop here.taken (drop taken bytes)) (used + length line) in
      let roomy : line_limit ≤ room - used = (ready ended room stage (drop taken bytes) used on).roomy in
      ap (written_behind buffer taken used)
      (one_turn goes (stopped_plays_nothing ended room) stage (drop taken bytes) used on
      ∙ ap (λ (a : Answering). played_before a.taken (printed_for stage a) (all_played goes (stage_behind stage a) (drop a.taken (drop taken bytes)) (used + length (printed_for stage a))))
      (sym told))
      ∙ one_written buffer taken used here.taken line rest (omega (arith, roomy, long, short))
      ∙ ap (λ (l : List ℕ). written_behind (placed buffer used line) (taken + here.taken) (used + length line) (all_played goes (stage_behind stage here) l (used + length line)))
      (drop-drop here.taken taken bytes)

  -- the record's bytes are there
  pub taken_there : taken ≤ length bytes → taken + here.taken ≤ length bytes
  taken_there inside =
      omega (arith, ap (λ (a : Answering). a.taken) told, (answer_advances stage (drop taken bytes)).inside, length-drop taken bytes)

  -- a turn takes bytes or stops the program
  pub turn_goes_on : taken ≤ length bytes → stage.stopped ≡ false
      → length bytes - (taken + here.taken) + pick here.stops 0 1 < length bytes - taken + pick stage.stopped 0 1
  turn_goes_on inside running = rw running (go here.stops refl)
    where
      go : (stops : Bool) → here.stops ≡ stops → length bytes - (taken + here.taken) + pick stops 0 1 < length bytes - taken + 1
      go true e = omega arith
      go false e =
          let some : 0 < (answer_at base stage (drop taken bytes)).taken =
          (answer_advances stage (drop taken bytes)).takes (ap (λ (a : Answering). a.stops) (sym told) ∙ e) in
          omega (arith, ap (λ (a : Answering). a.taken) told, some, taken_there inside)
