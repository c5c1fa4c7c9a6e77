use Rattle.nt_bytes.specs.Folding.{folds_same}
use Rattle.start_model.specs.Entries.{Entry}
use Rattle.failure_effects.proofs.LayerLemmas.{more_picked}
use Rattle.failure_effects.proofs.leaning.named_groups.Goals as goal

pub loop-entry-preserved : goal.loop-entry-preserved
loop-entry-preserved c =
    more_picked (λ (e : Entry). e.group) (λ (e : Entry). folds_same c.args.name.now e.name) c.args.entries.now c.loop-entry.entry-index
    c.entry-item.result c.loop-entry.names c.push_group_where.new.names c.loop-entry-test.true c.entry-item.is c.loop-entry.invariant
    c.in_ok-push_group_where.ensures
