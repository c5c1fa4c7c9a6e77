-- Edits whose own contents a hive can hold, and what they leave.
use Rattle.std.specs.Prelude.{◌≡◌, List, Ok}
use Rattle.std.specs.List.{All}
use Rattle.nt_bytes.specs.declared.version.HiveVersion.{HiveVersion}
use Rattle.hive_model.specs.Tree.{Tree}
use Rattle.hive_model.specs.Valid.{HoldsKeys, IsValid}
use Rattle.hive_model.specs.Edit.{Step, set_value, delete_value, make_key, delete_key, copy_child, add_child, edited}

-- the key that a step brings along can be held; what else a step brings is judged by the edit itself
abbrev pub Fits : Step → Type 0
Fits (set_value path name kind bytes) = Unit {0}
Fits (delete_value path name) = Unit {0}
Fits (make_key parent name) = Unit {0}
Fits (delete_key path) = Unit {0}
Fits (copy_child from to) = Unit {0}
Fits (add_child name tree) = HoldsKeys tree

-- a tree that a hive can hold is one again after steps that fit and are not refused
abbrev pub EditedIsValid : Type 0
EditedIsValid = (version : HiveVersion) (t u : Tree) (steps : List Step) → IsValid t → All Fits steps → edited version t steps ≡ Ok u → IsValid u
