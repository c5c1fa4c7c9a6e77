use Rattle.std.proofs.Common.{length, ap, ◌∙◌}
use Rattle.start_model.specs.Entries.{entries_of}
use Rattle.failure_effects.proofs.LayerLemmas.{all_layers}
use Rattle.failure_effects.proofs.leaning.push_leaning.Goals as goal

pub returns : goal.returns
returns c =
    all_layers c.push_layers.result c.args.states.now c.args.name.now (entries_of c.args.set.now) c.in_ok-needers.needers c.len-count.result
    c.in_ok-walk.walk c.args.lines.now c.push_layers.new.lines
    (c.in_ok-needers.ensures ∙ c.in_ok-into_entries.ensures ∙ c.in_ok-table.ensures)
    (c.len-count.ensures.len ∙ ap length c.in_ok-table.ensures) c.in_ok-walk.ensures.layer c.in_ok-walk.ensures.rest c.push_layers.ensures
