-- The tree that is in cells, as a function of them. (Regf format 1.3 and 1.5, key node; that the function answers an empty key
-- where nothing stands is this project's own.)
use Rattle.std.specs.Prelude.{ℕ, zero, suc, List, [], map, Result, Ok, Err}
use Rattle.nt_bytes.specs.declared.fault.HiveFaultKind.{HiveFaultKind}
use Rattle.hive_model.specs.Bins.{Cells}
use Rattle.hive_model.specs.KeyNode.{KeyNode, key_node_at}
use Rattle.hive_model.specs.Tree.{Head, Tree, key, none, trees}
use Rattle.hive_model.specs.Valid.{deepest_level}
use Rattle.hive_model.specs.Walk.{reading}
use Rattle.hive_model.specs.Stands.{tree_flags, class_of, security_of, values_of}
use Rattle.hive_model.specs.Footprint.{child_places}

-- what was read, and nothing where it was not
abbrev pub list_read : {A : Type 0} → Result (List A) HiveFaultKind → List A
list_read (Ok xs) = xs
list_read (Err kind) = []

-- what a key node and the cells that it names say of the key, but for its children; an empty key where none is read
abbrev pub head_of : Cells → Result KeyNode HiveFaultKind → Head
head_of cells (Ok node) = record {
  name = node.name;
  flags = tree_flags node.flags;
  stamp = node.stamp;
  class = list_read (class_of cells node);
  security = list_read (security_of cells node);
  values = list_read (values_of cells node);
}
head_of cells (Err kind) = record { name = []; flags = 0; stamp = 0; class = []; security = []; values = [] }

-- the tree at an offset, that many levels down
unfoldable pub tree_at : ℕ → Cells → ℕ → Tree
tree_at zero cells at = key (record { name = []; flags = 0; stamp = 0; class = []; security = []; values = [] }) none
tree_at (suc left) cells at = key (head_of cells (reading key_node_at cells at)) (trees (map (tree_at left cells) (child_places cells at)))

-- the tree at a root
unfoldable pub tree_of : Cells → ℕ → Tree
tree_of cells root = tree_at deepest_level cells root
