-- `tables::pair_at` meets its promise.
use Rattle.tables.proofs.Viewing.{pair_read}
use Rattle.tables.proofs.pair_at.Goals as goal

pub returns : goal.returns
returns c =
    let a = c.args in
    pair_read a.size a.words.now a.bytes.now a.marks.now a.s a.o c.pair-i.result c.private-at.result
    c.declared.result c.called.result c.spoiled.result c.requires.1 c.requires.2
    c.pair-i.ensures.0 c.private-at.ensures c.declared.ensures c.called.ensures c.spoiled.ensures
