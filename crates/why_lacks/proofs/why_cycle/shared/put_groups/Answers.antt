use Rattle.why_lacks.proofs.SharedLemmas.{put_more}
use Rattle.why_lacks.proofs.why_cycle.shared.put_groups.Goals as goal

pub loop-group-preserved : goal.loop-group-preserved
loop-group-preserved c =
    put_more c.args.needs.now c.args.at c.args.groups.now c.loop-group.group-index c.group-item.result c.args.pairs.now.keys
    c.loop-group.pairs.keys c.put_group.new.pairs.keys c.loop-group-test.true c.group-item.is c.loop-group.invariant
    c.in_ok-put_group.ensures
