use Rattle.std.proofs.Common.{ap, sym, ◌∙◌, List, ℕ}
use Rattle.nt_bytes.specs.Fields.{u16_in}
use Rattle.hive_model.specs.KeyNode.{is_narrow_key}
use Rattle.hive_model.specs.StoredNames.{stored_name}
use Rattle.key_index.specs.Lists.{stored_hint}
use Rattle.key_index.proofs.Nodes.{name_is}
use Rattle.key_index.proofs.hints.hint_of_node.Goals as goal

pub returns : goal.returns
returns c =
    c.hint_stored.ensures
    ∙ (λ j. stored_hint c.args.version (c.is_narrow.ensures j) (stored_name (c.is_narrow.ensures j) (c.stored_bytes.ensures j)))
    ∙ ap (λ (n : List ℕ). stored_hint c.args.version (is_narrow_key (u16_in c.args.node.now 2)) n)
    (sym (name_is c.args.node.now c.requires))
