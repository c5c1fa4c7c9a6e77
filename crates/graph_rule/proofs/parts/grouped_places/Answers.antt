use Rattle.why_needs.proofs.RangeLemmas.{gathered_more}
use Rattle.graph_rule.specs.Rows.{grouped_at}
use Rattle.graph_rule.proofs.parts.grouped_places.Goals as goal

pub loop-at-preserved : goal.loop-at-preserved
loop-at-preserved c =
    gathered_more (grouped_at c.args.entries.now) c.loop-at.at c.loop-at.out c.push_grouped.new.out c.loop-at.invariant
    c.in_ok-push_grouped.ensures
