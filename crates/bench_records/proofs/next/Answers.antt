-- What was read tells as the reading does, so it is the reading, and the list is that of the bytes.
use Rattle.std.specs.Prelude.{Err}
use Rattle.std.proofs.Common.{◌≡◌, ℕ, Bool, true, false, ltb, Option, is_some, List, [], ◌∷◌, length, sym, refl, ap, ◌∙◌, arith, ltb-false}
use Rattle.std.specs.Bool.{then_some}
use Rattle.std.specs.Option.{unwrap_or, option_map}
use Rattle.answers.specs.Numbers.{reply_of, refused, Answer}
use Rattle.answers.specs.declared.Refusal.TheVariants.{BadRecord}
use Rattle.counters.specs.Sizes.{base}
use Rattle.pump.specs.Held.{held}
use Rattle.record_layout.proofs.Telling.{reading_tells}
use Rattle.record_layout.specs.Reading.{list_in, Reading, reading, listing}
use Rattle.rules.specs.Steps.{read_step, Outcome}
use Rattle.bench_records.specs.Records.{end_buffer, stops_at, taken_by}
use Rattle.bench_records.proofs.next.Goals as goal

-- the end of the input is no record
end_refused : (bytes : List ℕ) → ltb 0 (length bytes) ≡ false → reading base bytes ≡ Err BadRecord
end_refused [] e = refl
end_refused (byte ∷ bytes) e = absurd (omega (arith, ltb-false 0 (length (byte ∷ bytes)) e))

-- a line where there are bytes
printed : (some : Bool) (answer : Answer) → is_some (then_some some answer) ≡ some
printed true answer = refl
printed false answer = refl

replied : (some : Bool) (answer : Answer) → (some ≡ false → reply_of answer ≡ refused BadRecord)
    → unwrap_or (option_map reply_of (then_some some answer)) (refused BadRecord) ≡ reply_of answer
replied true answer unread = refl
replied false answer unread = sym (unread refl)

pub returns : goal.returns
returns c =
    let a = c.args in
    let s = a.bytes.now in
    let same = reading_tells _ _ c.read-read.ensures in
    let tables = held a.words.now a.counts.now a.marks.now in
    let outcome =
    c.step_read-answer.ensures
    ∙ ap (λ (l : List ℕ). read_step base tables c.read-read.result l end_buffer) c.list_of-list.ensures.bytes
    ∙ ap (λ (r : Reading). read_step base tables r (list_in r s) end_buffer) same in
    let unread = λ (e : ltb 0 (length s) ≡ false).
    ap (λ (o : Outcome). o.reply) outcome ∙ ap (λ (r : Reading). (read_step base tables r (listing base s) end_buffer).reply) (end_refused s e) in
    let stops = c.stops.ensures ∙ ap stops_at same in
    let taken = c.taken.ensures ∙ ap taken_by same in
    let answer = c.step_read-answer.result in
    let some = ltb 0 (length s) in
    let reply = ap (λ (line : Option Answer). unwrap_or (option_map reply_of line) (refused BadRecord)) c.then_some.ensures ∙ replied some answer unread in
    let prints = ap is_some c.then_some.ensures ∙ printed some answer in
    λ i.
    record {
      tables = (outcome i).tables;
      reply = (reply ∙ ap (λ (o : Outcome). o.reply) outcome) i;
      prints = prints i;
      stops = stops i;
      taken = taken i;
    }
