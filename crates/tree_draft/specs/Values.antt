-- The values of a key, opened or not.
use Rattle.std.specs.Prelude.{List}
use Rattle.hive_model.specs.Tree.{Item}
use Rattle.tree_draft.specs.declared.values.DraftValues.{DraftValues}
use Rattle.tree_draft.specs.declared.values.DraftValues.TheVariants.{Kept, Open}

-- the values of a key, whether they were opened or not
abbrev pub values_in : DraftValues → List Item
values_in (Kept values) = values
values_in (Open values) = values
