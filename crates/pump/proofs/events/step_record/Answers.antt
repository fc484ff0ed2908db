-- `pump::events::step_record` meets its promise.
use Rattle.std.proofs.Common.{ℕ, List, ap, ◌∙◌}
use Rattle.counters.specs.Sizes.{base}
use Rattle.record_layout.proofs.Telling.{reading_tells}
use Rattle.record_layout.specs.Reading.{list_in, Reading}
use Rattle.rules.specs.Steps.{read_step}
use Rattle.pump.specs.Held.{held}
use Rattle.pump.proofs.events.step_record.Goals as goal

-- the list is that of the bytes, and what was read tells what the bytes read as
pub returns : goal.returns
returns c =
    let a = c.args in
    let t = held a.words.now a.bytes.now a.marks.now in
    c.step_read.ensures
    ∙ ap (λ (l : List ℕ). read_step base t c.read-read.result l a.buf.now) c.list_of.ensures.bytes
    ∙ ap (λ (r : Reading). read_step base t r (list_in r a.given.now) a.buf.now) (reading_tells _ _ c.read-read.ensures)
