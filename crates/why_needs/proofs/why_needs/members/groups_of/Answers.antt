use Rattle.start_model.specs.Entries.{Entry}
use Rattle.why_needs.proofs.TakeLemmas.{taken_more}
use Rattle.why_needs.proofs.why_needs.members.groups_of.Goals as goal

pub loop-entry-preserved : goal.loop-entry-preserved
loop-entry-preserved c =
    taken_more (λ (e : Entry). e.group) c.args.entries.now c.loop-entry.entry-index c.entry-item.result c.loop-entry.names
    c.push_group.new.names c.loop-entry-test.true c.entry-item.is c.loop-entry.invariant c.in_ok-push_group.ensures
