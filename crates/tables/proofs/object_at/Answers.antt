-- `tables::object_at` meets its promise.
use Rattle.std.proofs.Common.{[], sym}
use Rattle.tables.proofs.Viewing.{object_seen}
use Rattle.tables.proofs.object_at.Goals as goal

pub returns : goal.returns
returns c = sym (object_seen c.args.size c.args.words.now [] [] c.args.o c.requires.1)
