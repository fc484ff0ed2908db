-- `tables::store_live` meets its promise.
use Rattle.std.proofs.Common.{◌∙◌}
use Rattle.std.proofs.Math.ListN.{length-set}
use Rattle.tables.proofs.Viewing.{live_stored}
use Rattle.tables.proofs.store_live.Goals as goal

pub returns : goal.returns
returns c =
    let a = c.args in
    (length-set a.marks.now a.s a.live ∙ c.requires.0, λ w b. live_stored a.size w b a.marks.now c.requires.0 a.s a.live c.requires.1)
