use Rattle.graph_rule.specs.Shown.{is_shown_of_all}
use Rattle.graph_rule.proofs.GatherLemmas.{each_more}
use Rattle.graph_rule.proofs.ShownLemmas.{shown_of_all}
use Rattle.graph_rule.proofs.marks.marks_of_all.Goals as goal

pub loop-at-preserved : goal.loop-at-preserved
loop-at-preserved c =
    let ns = c.args.nodes.now in
    let rows = c.args.rows.now in
    each_more (is_shown_of_all ns rows) c.loop-at.at c.loop-at.marks.items c.push.new.self.items c.is_shown.result c.loop-at.invariant
    (shown_of_all ns rows c.args.back.now c.loop-at.at c.is_shown.result c.requires c.is_shown.ensures) c.in_ok-push.ensures.items
