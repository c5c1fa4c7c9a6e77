-- What becomes of a key by one of the changes that edits are made of.
use Rattle.hive_model.specs.Tree.{Tree, is_named, is_item}
use Rattle.hive_model.specs.Edit.{of_items, of_children, with_item, without_first, with_key}
use Rattle.reg_tree.specs.declared.change.Change.{Change}
use Rattle.reg_tree.specs.declared.change.Change.TheVariants.{PutValue, DropValue, PutKey, DropKey}

-- the key after the change
abbrev pub change_of : Change → Tree → Tree
change_of (PutValue name kind bytes) t = of_items (with_item name kind bytes) t
change_of (DropValue name) t = of_items (without_first (is_item name)) t
change_of (PutKey name) t = with_key name t
change_of (DropKey name) t = of_children (without_first (is_named name)) t
