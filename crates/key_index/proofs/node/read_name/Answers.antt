use Rattle.std.proofs.Common.{sym, ◌∙◌}
use Rattle.hive_model.specs.StoredNames.{stored_name}
use Rattle.key_index.proofs.Nodes.{name_is}
use Rattle.key_index.proofs.node.read_name.Goals as goal
use Rattle.std.proofs.lemmas.Result.{IfOk-weaker}

pub returns : goal.returns
returns c =
    IfOk-weaker c.read_stored.result _ _
    (λ u e. e ∙ (λ j. stored_name (c.is_narrow.ensures j) (c.stored_bytes.ensures j))
    ∙ sym (name_is c.args.node.now c.requires))
    c.read_stored.ensures
