-- `step_start::begin` meets its promise.
use Rattle.std.proofs.Common.{◌∙◌}
use Rattle.rules.specs.Walks.{each_below}
use Rattle.tables.specs.Serving.Memories.{tables_of}
use Rattle.tables.proofs.Memories.{same_on}
use Rattle.tables.proofs.Viewing.{sized}
use Rattle.step_start.specs.Serving.Beginnings.{begin_slot}
use Rattle.step_start.proofs.Begun.{begun}
use Rattle.step_start.proofs.begin.Goals as goal

pub returns : goal.returns
returns c =
    let a = c.args in
    let m = a.memory.now in
    let objects = c.begin_objects in
    let slots = c.begin_slots in
    record {
      same = same_on objects.ensures.same slots.ensures.same;
      tables =
          begun m.size a.first.0 a.given.now (tables_of m) (tables_of objects.new.memory) (tables_of slots.new.memory)
          (sized m.size m.words.now m.bytes.now m.marks.now) c.requires objects.ensures.tables
          (slots.ensures.tables ∙ (λ i. each_below (objects.ensures.same.size i).slots (begin_slot (objects.ensures.same.size i)) (tables_of objects.new.memory)));
    }
