use Rattle.std.proofs.Common.{◌∙◌}
use Rattle.rules.specs.Tables.{with_pair}
use Rattle.rules.specs.Walks.{each_below}
use Rattle.tables.specs.Serving.Changes.{spoil_caller}
use Rattle.tables.specs.Serving.Memories.{tables_of}
use Rattle.tables.proofs.Memories.{same_on}
use Rattle.tables.proofs.Viewing.{sized}
use Rattle.step_end.proofs.Callers.{turned}
use Rattle.step_end.proofs.settle_one.Goals as goal

pub returns : goal.returns
returns c =
    let a = c.args in
    let m = a.memory.now in
    let none = c.none.result in
    let asked = c.slots_asked-asked.result in
    let object = c.store_object.ensures in
    let spoiled = c.spoil_callers.ensures in
    record {
      same = same_on (same_on object.same spoiled.same) c.store_pair.ensures.same;
      tables =
          c.store_pair.ensures.tables
          ∙ (λ i. with_pair ((same_on object.same spoiled.same).size i) (spoiled.tables i) a.s a.o none)
          ∙ (λ i. with_pair m.size (each_below asked (λ r w. spoil_caller (object.same.size i) a.o r w) (object.tables i)) a.s a.o none)
          ∙ turned m.size a.s a.o c.requires.1 a.rollback (tables_of m) (sized m.size m.words.now m.bytes.now m.marks.now)
          c.pair_at-pair.result none c.object_at.result c.object-object.result asked
          c.pair_at-pair.ensures c.object_at.ensures c.object-object.ensures c.slots_asked-asked.ensures c.none.ensures;
    }
