use Rattle.why_needs.proofs.TakeLemmas.{taken_more}
use Rattle.graph_rule.specs.Entries.{entry_named}
use Rattle.graph_rule.proofs.entries.each_named.Goals as goal

pub loop-name-preserved : goal.loop-name-preserved
loop-name-preserved c =
    taken_more (entry_named c.args.run.now c.args.entries.now c.args.names.now) c.args.firsts.now c.loop-name.name-index
    c.name-item.result c.loop-name.out c.push_named.new.out c.loop-name-test.true c.name-item.is c.loop-name.invariant
    c.in_ok-push_named.ensures
