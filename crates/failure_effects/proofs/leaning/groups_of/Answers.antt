use Rattle.start_model.specs.Entries.{Entry}
use Rattle.failure_effects.proofs.LayerLemmas.{more_mapped}
use Rattle.failure_effects.proofs.leaning.groups_of.Goals as goal

pub loop-entry-preserved : goal.loop-entry-preserved
loop-entry-preserved c =
    more_mapped (λ (e : Entry). e.group) c.args.entries.now c.loop-entry.entry-index c.entry-item.result c.loop-entry.names
    c.push_group.new.names c.loop-entry-test.true c.entry-item.is c.loop-entry.invariant c.in_ok-push_group.ensures
