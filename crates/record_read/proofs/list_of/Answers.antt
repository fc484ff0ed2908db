-- The bytes read as the record that is bound here, so its list stands within them.
use Rattle.std.proofs.Common.{sym, ◌∙◌}
use Rattle.counters.specs.Sizes.{base}
use Rattle.record_layout.proofs.Telling.{reading_tells}
use Rattle.record_layout.proofs.WriteBack.{list_inside, taken_inside}
use Rattle.record_read.proofs.list_of.Goals as goal

pub slice_bounds-result-count : goal.slice_bounds-result-count
slice_bounds-result-count c =
    list_inside base c.args.s.now _ _ _ (sym (reading_tells _ _ c.requires) ∙ c.in-Ok.is)

pub slice_bounds-result-start : goal.slice_bounds-result-start
slice_bounds-result-start c =
    list_inside base c.args.s.now _ _ _ (sym (reading_tells _ _ c.requires) ∙ c.in-Ok.is)

pub slice_bounds-result-end-2 : goal.slice_bounds-result-end-2
slice_bounds-result-end-2 c =
    taken_inside base c.args.s.now _ _ _ (sym (reading_tells _ _ c.requires) ∙ c.in-Ok.is)
