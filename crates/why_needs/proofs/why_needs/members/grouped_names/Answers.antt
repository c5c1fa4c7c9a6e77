use Rattle.why_needs.specs.why_needs.Members.{grouped_name}
use Rattle.why_needs.proofs.TakeLemmas.{taken_more}
use Rattle.why_needs.proofs.why_needs.members.grouped_names.Goals as goal

pub loop-entry-preserved : goal.loop-entry-preserved
loop-entry-preserved c =
    taken_more grouped_name c.args.entries.now c.loop-entry.entry-index c.entry-item.result c.loop-entry.names c.push_grouped.new.names
    c.loop-entry-test.true c.entry-item.is c.loop-entry.invariant c.in_ok-push_grouped.ensures
