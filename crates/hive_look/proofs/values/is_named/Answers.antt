use Rattle.std.proofs.Common.{sym, ap, ◌∙◌}
use Rattle.nt_bytes.specs.Folding.{folds_same}
use Rattle.hive_model.specs.StoredNames.{stored_name}
use Rattle.hive_look.proofs.ItemLemmas.{value_name_is}
use Rattle.hive_look.proofs.values.is_named.Goals as goal

pub returns : goal.returns
returns c =
    c.same_stored.ensures
    ∙ (λ j. folds_same c.args.name.now (stored_name (c.is_narrow-narrow.ensures j) (c.stored_bytes-stored.ensures j)))
    ∙ ap (folds_same c.args.name.now) (sym (value_name_is c.args.value.now c.requires))
