-- What is a set with an entry off? (this project's own; Start 4 is disabled in Microsoft's documentation of service entries)
use Rattle.std.specs.Prelude.{ℕ, List, [], ◌∷◌, codes}
use Rattle.std.specs.Int.{w32, to_le_bytes}
use Rattle.hive_model.specs.Tree.{Item, Tree, is_item}
use Rattle.hive_model.specs.Edit.{at_first, of_items, at_key}

-- the value as a DWORD that is 4
abbrev pub as_four : Item → Item
as_four v = record v { kind = 4; bytes = to_le_bytes w32 4 }

-- the key of an entry with its Start being 4; without such a value it is as it was
abbrev pub off_key : Tree → Tree
off_key t = of_items (at_first (is_item (codes "Start")) as_four) t

-- the set with the Start of the entry of this name being 4
abbrev pub off_set : List ℕ → Tree → Tree
off_set name set = at_key (codes "Services" ∷ name ∷ []) off_key set
