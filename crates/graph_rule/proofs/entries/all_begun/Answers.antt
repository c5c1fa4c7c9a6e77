use Rattle.graph_rule.specs.Entries.{begun_at}
use Rattle.graph_rule.proofs.GatherLemmas.{flat_more}
use Rattle.graph_rule.proofs.entries.all_begun.Goals as goal

pub loop-at-preserved : goal.loop-at-preserved
loop-at-preserved c =
    flat_more (begun_at c.args.run.now) c.loop-at.at c.loop-at.out c.push_begun.new.out c.loop-at.invariant c.in_ok-push_begun.ensures
