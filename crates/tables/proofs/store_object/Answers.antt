-- `tables::store_object` meets its promise.
use Rattle.std.proofs.Common.{◌∙◌}
use Rattle.tables.proofs.Viewing.{object_stored_lem, object_long}
use Rattle.tables.proofs.store_object.Goals as goal

pub returns : goal.returns
returns c =
    let a = c.args in
    (object_long a.words.now a.o a.object ∙ c.requires.0, λ b k. object_stored_lem a.size a.words.now b k c.requires.0 a.o a.object c.requires.1)
