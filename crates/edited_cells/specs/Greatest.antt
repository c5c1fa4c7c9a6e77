-- What does a key's node tell of the greatest lengths of its children and values? (Regf format 1.3 and 1.5, key node, the bytes at 52
-- to 67.)
use Rattle.std.specs.Prelude.{◌≡◌, ◌≤◌, ◌⊎◌, ℕ, List, Ok}
use Rattle.hive_model.specs.Bins.{Cells}
use Rattle.hive_model.specs.KeyNode.{KeyNode, key_node_at}
use Rattle.hive_model.specs.Edit.{Step}
use Rattle.hive_model.specs.Walk.{reading}
use Rattle.hive_model.specs.Footprint.{parent_of}
use Rattle.hive_model.specs.Owned.{In, named_keys}

-- a node with other such lengths
abbrev pub with_lengths : KeyNode → KeyNode → KeyNode
with_lengths n m = record n {
  greatest_child_name = m.greatest_child_name;
  greatest_child_class = m.greatest_child_class;
  greatest_value_name = m.greatest_value_name;
  greatest_value_size = m.greatest_value_size;
}

-- no length that a node records is greater than that of another
pub record IsNoLonger (old new : KeyNode) : Type 0 where
  pub child_name : old.greatest_child_name ≤ new.greatest_child_name
  pub child_class : old.greatest_child_class ≤ new.greatest_child_class
  pub value_name : old.greatest_value_name ≤ new.greatest_value_name
  pub value_size : old.greatest_value_size ≤ new.greatest_value_size

-- from cells b to cells c the node at x records greater lengths, or the same, and no other cell that is allocated changes
pub record RaisesLengths (b c : Cells) (x : ℕ) : Type 0 where
  pub version : c.version ≡ b.version
  pub old : KeyNode
  pub new : KeyNode
  pub read : reading key_node_at b x ≡ Ok old
  pub read_new : reading key_node_at c x ≡ Ok new
  pub same : new ≡ with_lengths old new
  pub raised : IsNoLonger old new
  pub others : (o : ℕ) (q : List ℕ) → b.payload o ≡ Ok q → (o ≡ x → ⊥) → c.payload o ≡ Ok q

-- a step names the key at this path, or one right below it
pub record IsNamedPath (step : Step) (path : List (List ℕ)) : Type 0 where
  pub key : List (List ℕ)
  pub named : In (named_keys step) key
  pub is : (path ≡ key) ⊎ (path ≡ parent_of key)
