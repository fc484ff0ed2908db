use Rattle.objects.specs.Places.{no_pair}
use Rattle.rules.specs.Tables.{with_pair}
use Rattle.tables.proofs.Memories.{became_first, became_on}
use Rattle.tables.proofs.memory.Memory.clear.Goals as goal

pub loop-o-init : goal.loop-o-init
loop-o-init c = became_first (λ q t. with_pair c.args.self.now.size t c.args.s q no_pair) c.args.self.now

pub loop-o-preserved : goal.loop-o-preserved
loop-o-preserved c =
    became_on (λ q t. with_pair c.args.self.now.size t c.args.s q no_pair) c.loop-o.invariant c.store_pair.ensures (λ t i. with_pair (c.loop-o.invariant.same.size i) t c.args.s c.loop-o.o (c.none.ensures i))
