-- `tables::live_at` meets its promise.
use Rattle.std.proofs.Common.{[], sym}
use Rattle.tables.proofs.Viewing.{live_seen}
use Rattle.tables.proofs.live_at.Goals as goal

pub returns : goal.returns
returns c = sym (live_seen c.args.size [] [] c.args.marks.now c.args.s c.requires.1)
