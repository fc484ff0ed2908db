-- The input as it is delivered: in pieces of any size, played with buffers of lines of any size.
use Rattle.std.specs.Prelude.{◌≡◌, ℕ, Bool, true, List, [], ◌∷◌, ◌++◌, drop}
use Rattle.counters.specs.Sizes.{base}
use Rattle.bench_play.specs.Bench.{Stage, Playing, at_first}
use Rattle.bench_play.specs.Pieces.{piece_played}

-- what is read behind the bytes at hand, whether the input ends there, and the room for lines
pub record Delivery : Type 0 where
  pub piece : List ℕ
  pub ended : Bool
  pub room : ℕ

-- how far the bench has come: its stage, the bytes at hand, and all that it has written
pub record Reached : Type 0 where
  pub stage : Stage
  pub hand : List ℕ
  pub written : List ℕ

abbrev pub reached_first : Reached
reached_first = record { stage = at_first base; hand = []; written = [] }

abbrev pub reached_by : Reached → Delivery → Reached
reached_by from delivery =
    let bytes : List ℕ = from.hand ++ delivery.piece in
    let played : Playing = piece_played delivery.ended delivery.room from.stage bytes in
    record { stage = played.stage; hand = drop played.taken bytes; written = from.written ++ played.lines }

abbrev pub reached_by_all : Reached → List Delivery → Reached
reached_by_all from [] = from
reached_by_all from (delivery ∷ deliveries) = reached_by_all (reached_by from delivery) deliveries

-- all that is delivered, in front of what is still to come
abbrev pub input : List Delivery → List ℕ → List ℕ
input [] behind = behind
input (delivery ∷ deliveries) behind = delivery.piece ++ input deliveries behind

-- nothing comes behind the end of the input
abbrev pub EndsOnce : List Delivery → List ℕ → Type 0
EndsOnce [] behind = Unit {0}
EndsOnce (delivery ∷ deliveries) behind = (delivery.ended ≡ true → input deliveries behind ≡ []) × EndsOnce deliveries behind
