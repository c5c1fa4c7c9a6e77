-- What is asked of a line of `show`, so that its object determines it? (this project's own)
use Rattle.std.specs.Prelude.{List, length}
use Rattle.std.specs.List.{AllByRecursion}
use Rattle.hex.specs.Hex.{IsBytes}
use Rattle.hive_model.specs.Tree.{Item}
use Rattle.tree_text.specs.TreeObjects.{TreeLine, HiveLine, KeyLine, ValueLine}
use Rattle.json_laws.specs.Objects.{IsNumber, AreUnits}

-- a value's name is of units, its type and the count of its bytes are of 64 bits, and its bytes are bytes
pub record IsShownValue (v : Item) : Type 0 where
  pub name : AreUnits v.name
  pub kind : IsNumber v.kind
  pub count : IsNumber (length v.bytes)
  pub bytes : IsBytes v.bytes

-- numbers are of 64 bits, and names of units
abbrev pub IsTreeLine : TreeLine → Type 0
IsTreeLine (HiveLine sequence bulk) = IsNumber sequence × IsNumber bulk
IsTreeLine (KeyLine level name) = IsNumber level × AreUnits name
IsTreeLine (ValueLine level v) = IsNumber level × IsShownValue v

-- so is each line of what is shown
abbrev pub AreTreeLines : List TreeLine → Type 0
AreTreeLines lines = AllByRecursion IsTreeLine lines
