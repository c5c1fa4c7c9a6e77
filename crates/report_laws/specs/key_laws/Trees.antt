-- In which trees do all numbers fit the fields of a hive? (regf format: Key node, Key value)
use Rattle.std.specs.Prelude.{◌<◌, ◌^◌}
use Rattle.std.specs.List.{AllByRecursion}
use Rattle.hex.specs.Hex.{IsBytes}
use Rattle.hive_model.specs.Tree.{Head, Tree, Trees, key, none, more}
use Rattle.hive_model.specs.Valid.{HoldsKeys}
use Rattle.json_laws.specs.Objects.{AreUnits}
use Rattle.report_laws.specs.key_laws.Lines.{FitsItem}

-- the name is of units, flags are of 16 bits, the stamp of 64, class and descriptor are bytes, and each value fits
pub record FitsHead (h : Head) : Type 0 where
  pub name : AreUnits h.name
  pub flags : h.flags < 2 ^ 16
  pub stamp : h.stamp < 2 ^ 64
  pub class : IsBytes h.class
  pub security : IsBytes h.security
  pub values : AllByRecursion FitsItem h.values

-- each key of the tree fits (this project's own)
abbrev mutual
  pub FitsTree : Tree → Type 0
  FitsTree (key h ts) = FitsHead h × AllFit ts

  -- each key of each of these trees fits (this project's own)
  pub AllFit : Trees → Type 0
  AllFit none = Unit {0}
  AllFit (more t ts) = FitsTree t × AllFit ts

-- a tree as a hive can hold it: the types of a program's keys say that it fits
pub record IsHeld (t : Tree) : Type 0 where
  pub keys : HoldsKeys t
  pub fits : FitsTree t
