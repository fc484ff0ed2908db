-- `tables::store_pair` meets its promise.
use Rattle.tables.proofs.Viewing.{stored_become}
use Rattle.tables.proofs.store_pair.Goals as goal

pub returns : goal.returns
returns c =
    let a = c.args in
    stored_become a.size a.words.now a.bytes.now a.marks.now c.requires.0 a.s a.o a.pair c.requires.1 c.requires.2
    c.pair-i.result c.private-at.result c.declared-declared.result c.called-called.result c.spoiled-spoiled.result
    c.pair-i.ensures.0 c.private-at.ensures c.declared-declared.ensures c.called-called.ensures c.spoiled-spoiled.ensures
