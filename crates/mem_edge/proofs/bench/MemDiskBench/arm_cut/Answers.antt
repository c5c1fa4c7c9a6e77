use Rattle.std.proofs.Common.{rules}
use Rattle.mem_edge.proofs.ArmLemmas.{cut_within}
use Rattle.mem_edge.proofs.bench.MemDiskBench.arm_cut.Goals as goal

pub invariant_of-self-2-clause-orders : goal.invariant_of-self-2-clause-orders
invariant_of-self-2-clause-orders c =
    cut_within c.args.self.now.orders c.args.call c.args.n c.args.keep _ _ (search rules)
