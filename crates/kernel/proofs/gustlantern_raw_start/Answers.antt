-- `kernel::gustlantern_raw_start` meets its promise.
use Rattle.answers.specs.declared.Reply.{Reply}
use Rattle.std.proofs.Common.{ap}
use Rattle.pump.specs.Held.{held}
use Rattle.kernel.proofs.Said.{start_said}
use Rattle.kernel.proofs.gustlantern_raw_start.Goals as goal

pub returns : goal.returns
returns c =
    let a = c.args in
    start_said (held a.words.now a.bytes.now a.marks.now) _ a.slot a.list.now c.start.result _ (ap (λ (r : Reply). r.number) c.from.ensures) c.start.ensures
