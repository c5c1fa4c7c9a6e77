use Rattle.std.proofs.Common.{List, ℕ, sym, ap, ◌∙◌}
use Rattle.nt_bytes.specs.Folding.{folded_order}
use Rattle.hive_model.specs.StoredNames.{stored_name}
use Rattle.key_index.proofs.Nodes.{name_is}
use Rattle.key_index.proofs.node.compare_node.Goals as goal

pub returns : goal.returns
returns c =
    c.compare_stored.ensures
    ∙ (λ j. folded_order (stored_name (c.is_narrow.ensures j) (c.stored_bytes.ensures j)) c.args.name.now)
    ∙ ap (λ (n : List ℕ). folded_order n c.args.name.now) (sym (name_is c.args.node.now c.requires))
