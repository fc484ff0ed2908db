-- What was read tells as the reading does, so it is the reading, and the list is the same part.
use Rattle.std.proofs.Common.{ap, ◌∙◌}
use Rattle.record_layout.proofs.Telling.{reading_tells}
use Rattle.record_layout.specs.Bytes.{moved}
use Rattle.record_layout.specs.Reading.{list_in, list_at, Reading}
use Rattle.record_read.proofs.list.Goals as goal

pub returns : goal.returns
returns c =
    let s = c.args.s in
    let same = reading_tells _ _ c.read.ensures in
    record {
      bytes = c.list_of.ensures.bytes ∙ ap (λ (r : Reading). list_in r s.now) same;
      place_is = c.list_of.ensures.place_is ∙ ap (λ (r : Reading). moved s.ref_ptr (list_at r)) same;
    }
