use Rattle.why_needs.proofs.TakeLemmas.{taken_more}
use Rattle.graph_rule.specs.Rows.{name_vertex}
use Rattle.graph_rule.proofs.rows.name_vertices.Goals as goal

pub loop-name-preserved : goal.loop-name-preserved
loop-name-preserved c =
    taken_more (name_vertex c.args.parts.now) c.args.names.now c.loop-name.name-index c.name-item.result c.loop-name.out
    c.push_name.new.out c.loop-name-test.true c.name-item.is c.loop-name.invariant c.in_ok-push_name.ensures
