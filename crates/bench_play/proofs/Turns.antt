-- Records played one after the other: each takes bytes or stops the program, so that as many turns as there are bytes, and one, are all of them.
use Rattle.record_layout.specs.Reading.{read_as, reading, listing, Reading}
use Rattle.std.specs.Prelude.{Err, Ok}
use Rattle.std.proofs.Common.{◌≡◌, ℕ, zero, suc, ◌+◌, ◌<◌, ◌≤◌, Bool, true, false, List, length, drop, sym, refl, ap, ◌∙◌, arith, length-drop}
use Rattle.std.proofs.lemmas.Bool.{true≢false}
use Rattle.answers.specs.Order.{pick}
use Rattle.counters.specs.Sizes.{base}
use Rattle.record_layout.specs.declared.fields.Fields.{Fields}
use Rattle.record_layout.proofs.WriteBack.{some_taken}
use Rattle.rules.specs.Tables.{State}
use Rattle.bench_records.specs.Records.{Answering, taken_by, stops_at, first_read, first_step, bench_step, first_fields}
use Rattle.bench_records.proofs.Taking.{taken_inside, first_inside}
use Rattle.bench_play.specs.Bench.{Stage, answer_at, printed_for, stage_behind, Playing, not_played, played_before, played_while, all_played}

-- what a record gives, of the bytes that it stands in front of
pub record Advances (here : Answering) (bytes : List ℕ) : Type 0 where
  pub takes : here.stops ≡ false → 0 < here.taken
  pub inside : here.taken ≤ length bytes

step_advances : (t : State) (bytes : List ℕ) → Advances (bench_step base t bytes) bytes
step_advances t bytes = record { takes = go (reading base bytes) refl; inside = taken_inside base bytes }
  where
    go : (read : Reading) → reading base bytes ≡ read → stops_at read ≡ false → 0 < taken_by read
    go (Ok read) e going = some_taken base bytes read.fields read.list read.taken e
    go (Err refusal) e going = absurd (true≢false going)

first_advances : (bytes : List ℕ) → Advances (first_step base bytes) bytes
first_advances bytes = record { takes = go (reading base bytes) refl; inside = first_inside base bytes }
  where
    opens : (fields : Fields) (at taken : ℕ) → reading base bytes ≡ read_as fields at taken
        → (first_fields base fields (listing base bytes) taken).stops ≡ false → 0 < (first_fields base fields (listing base bytes) taken).taken
    opens (Fields.Fresh first) at taken e going = some_taken base bytes (Fields.Fresh first) at taken e
    opens (Fields.Event event) at taken e going = absurd (true≢false going)
    opens (Fields.Ended tick slot rollback) at taken e going = absurd (true≢false going)

    go : (read : Reading) → reading base bytes ≡ read → (first_read base read (listing base bytes)).stops ≡ false → 0 < (first_read base read (listing base bytes)).taken
    go (Ok read) e going = opens read.fields read.list read.taken e going
    go (Err refusal) e going = absurd (true≢false going)

pub answer_advances : (stage : Stage) (bytes : List ℕ) → Advances (answer_at base stage bytes) bytes
answer_advances stage bytes = go stage.begun
  where
    go : (begun : Bool) → Advances (pick begun (bench_step base stage.tables bytes) (first_step base bytes)) bytes
    go true = step_advances stage.tables bytes
    go false = first_advances bytes

-- a test by which a stopped program plays nothing
module _ (goes : Stage → List ℕ → ℕ → Bool) (halts : (stage : Stage) (bytes : List ℕ) (used : ℕ) → stage.stopped ≡ true → goes stage bytes used ≡ false) where
  pub halted : (most : ℕ) (stage : Stage) (bytes : List ℕ) (used : ℕ) → goes stage bytes used ≡ false → played_while base goes most stage bytes used ≡ not_played stage
  unfolding played_while
  halted zero stage bytes used ends = refl
  halted (suc most) stage bytes used ends = rw ends

  -- a stage that has stopped plays nothing in any number of turns
  same_unless_stopped : (x y : ℕ) (stage : Stage) (bytes : List ℕ) (used : ℕ)
      → (stage.stopped ≡ false → played_while base goes x stage bytes used ≡ played_while base goes y stage bytes used)
      → played_while base goes x stage bytes used ≡ played_while base goes y stage bytes used
  same_unless_stopped x y stage bytes used same = go stage.stopped refl
    where
      go : (stopped : Bool) → stage.stopped ≡ stopped → played_while base goes x stage bytes used ≡ played_while base goes y stage bytes used
      go true e =
          let ends : goes stage bytes used ≡ false = halts stage bytes used e in
          halted x stage bytes used ends ∙ sym (halted y stage bytes used ends)
      go false e = same e

  behind_same : (x y : ℕ) (stage : Stage) (bytes : List ℕ) (used : ℕ)
      → (let here : Answering = answer_at base stage bytes in
      here.stops ≡ false → played_while base goes x (stage_behind stage here) (drop here.taken bytes) (used + length (printed_for stage here))
      ≡ played_while base goes y (stage_behind stage here) (drop here.taken bytes) (used + length (printed_for stage here)))
      → played_while base goes (suc x) stage bytes used ≡ played_while base goes (suc y) stage bytes used
  unfolding played_while
  behind_same x y stage bytes used same =
      let here : Answering = answer_at base stage bytes in
      ap (λ (p : Playing). pick (goes stage bytes used) (played_before here.taken (printed_for stage here) p) (not_played stage))
      (same_unless_stopped x y (stage_behind stage here) (drop here.taken bytes) (used + length (printed_for stage here)) same)

  -- turns beyond the bytes change nothing
  pub enough : (x y : ℕ) (stage : Stage) (bytes : List ℕ) (used : ℕ) → length bytes < x → length bytes < y
      → played_while base goes x stage bytes used ≡ played_while base goes y stage bytes used
  enough zero y stage bytes used h k = absurd (omega arith)
  enough (suc x) zero stage bytes used h k = absurd (omega arith)
  enough (suc x) (suc y) stage bytes used h k =
      let here : Answering = answer_at base stage bytes in
      let advances = answer_advances stage bytes in
      behind_same x y stage bytes used
      (λ going. enough x y (stage_behind stage here) (drop here.taken bytes) (used + length (printed_for stage here))
      (omega (arith, length-drop here.taken bytes, advances.takes going, advances.inside))
      (omega (arith, length-drop here.taken bytes, advances.takes going, advances.inside)))

  pub turn_unfolds : (most : ℕ) (stage : Stage) (bytes : List ℕ) (used : ℕ) → goes stage bytes used ≡ true
      → (let here : Answering = answer_at base stage bytes in
      played_while base goes (suc most) stage bytes used
      ≡ played_before here.taken (printed_for stage here)
      (played_while base goes most (stage_behind stage here) (drop here.taken bytes) (used + length (printed_for stage here))))
  unfolding played_while
  turn_unfolds most stage bytes used on = rw on

  pub one_turn : (stage : Stage) (bytes : List ℕ) (used : ℕ) → goes stage bytes used ≡ true
      → (let here : Answering = answer_at base stage bytes in
      all_played goes stage bytes used
      ≡ played_before here.taken (printed_for stage here) (all_played goes (stage_behind stage here) (drop here.taken bytes) (used + length (printed_for stage here))))
  one_turn stage bytes used on =
      let here : Answering = answer_at base stage bytes in
      let rest : List ℕ = drop here.taken bytes in
      let advances = answer_advances stage bytes in
      enough (length bytes + 1) (suc (length bytes)) stage bytes used (omega arith) (omega arith)
      ∙ behind_same (length bytes) (length rest + 1) stage bytes used
      (λ going. enough (length bytes) (length rest + 1) (stage_behind stage here) rest (used + length (printed_for stage here))
      (omega (arith, length-drop here.taken bytes, advances.takes going, advances.inside))
      (omega arith))
      ∙ turn_unfolds (length rest + 1) stage bytes used on

  pub no_turn : (stage : Stage) (bytes : List ℕ) (used : ℕ) → goes stage bytes used ≡ false → all_played goes stage bytes used ≡ not_played stage
  no_turn stage bytes used off = halted (length bytes + 1) stage bytes used off
