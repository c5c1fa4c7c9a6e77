use Rattle.why_needs.proofs.RangeLemmas.{gathered_more}
use Rattle.why_needs.specs.why_needs.Met.{group_at}
use Rattle.why_needs.proofs.why_needs.met.started_groups.Goals as goal

pub loop-at-preserved : goal.loop-at-preserved
loop-at-preserved c =
    gathered_more (group_at c.args.run.now) c.loop-at.at c.loop-at.names c.push_group.new.names c.loop-at.invariant
    c.in_ok-push_group.ensures
