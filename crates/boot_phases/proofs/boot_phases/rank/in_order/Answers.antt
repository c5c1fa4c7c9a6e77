use Rattle.boot_phases.proofs.RankLemmas.{sorted_is_ordered}
use Rattle.boot_phases.proofs.boot_phases.rank.in_order.Goals as goal

pub returns : goal.returns
returns c = sorted_is_ordered c.args.ranks.now.items c.sort_unstable.new.self.items c.sort_unstable.ensures.permutation
    c.sort_unstable.ensures.sorted
