use Rattle.std.proofs.Common.{Ok, sym, ap, ◌∙◌}
use Rattle.hive_model.specs.KeyNode.{KeyNode}
use Rattle.cell_forms.proofs.key_node.see_nk.Goals as goal

pub returns-clause-exact : goal.returns-clause-exact
returns-clause-exact c = c.in_ok-name.ensures.read ∙ ap (λ (k : KeyNode). Ok k) (sym c.fields.ensures)
