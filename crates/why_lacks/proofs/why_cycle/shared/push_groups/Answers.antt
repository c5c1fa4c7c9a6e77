use Rattle.why_lacks.specs.why_cycle.Shared.{group_need}
use Rattle.why_lacks.proofs.WaitsLemmas.{after_more}
use Rattle.why_lacks.proofs.why_cycle.shared.push_groups.Goals as goal

pub loop-group-preserved : goal.loop-group-preserved
loop-group-preserved c =
    after_more (group_need c.args.needs.now c.args.items.now.keys c.args.pairs.now.keys c.args.ways.now c.args.at) c.args.groups.now
    c.loop-group.group-index c.group-item.result c.args.row.now c.loop-group.row c.push_group.new.row c.loop-group-test.true c.group-item.is
    c.loop-group.invariant c.in_ok-push_group.ensures
