-- What was read is the reading, so its test and its list are those of the bytes.
use Rattle.std.proofs.Common.{refl, sym, ap, ◌∙◌}
use Rattle.record_layout.proofs.Telling.{reading_tells}
use Rattle.record_layout.specs.Reading.{list_in, Reading}
use Rattle.record_order.specs.CameFirst.{is_end}
use Rattle.record_order.proofs.end_list.Goals as goal

pub returns-then-not-is_end : goal.returns-then-not-is_end
returns-then-not-is_end c = (sym (c.if-not-is_end.ensures ∙ ap is_end (reading_tells _ _ c.read-read.ensures)), refl)

pub returns : goal.returns
returns c =
    let same = reading_tells _ _ c.read-read.ensures in
    (sym (c.if-not-is_end.ensures ∙ ap is_end same), c.list_of.ensures.bytes ∙ ap (λ (r : Reading). list_in r c.args.s.now) same)
