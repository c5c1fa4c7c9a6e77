-- What is read of a payload in which numbers were written over (this project's own; the fields: regf format 1.3 and 1.5, key node
-- and key value).
use Rattle.std.specs.Prelude.{◌≡◌, ℕ, ◌+◌, List, ◌++◌, length, take, drop, Ok}
use Rattle.std.specs.Int.{w32, to_le_bytes}
use Rattle.hive_model.specs.KeyNode.{KeyNode, key_node_at}
use Rattle.edited_cells.specs.Revalues.{SaysTheSame}

-- the payload with a part written over what stands from a place on
abbrev pub with_part : ℕ → List ℕ → List ℕ → List ℕ
with_part from part p = take from p ++ (part ++ drop (from + length part) p)

-- two numbers of four bytes in sequence
abbrev pub two_numbers : ℕ → ℕ → List ℕ
two_numbers a b = to_le_bytes w32 a ++ to_le_bytes w32 b

-- three numbers of four bytes in sequence
abbrev pub three_numbers : ℕ → ℕ → ℕ → List ℕ
three_numbers a b c = to_le_bytes w32 a ++ (to_le_bytes w32 b ++ to_le_bytes w32 c)

-- a payload reads as a node that has that many values and their list here, and says the same as another of all but its values
pub record HasNewValues (q : List ℕ) (n : KeyNode) (count list : ℕ) : Type 0 where
  pub new : KeyNode
  pub read : key_node_at q ≡ Ok new
  pub same : SaysTheSame n new
  pub count_is : new.value_count ≡ count
  pub list_is : new.value_list ≡ list
