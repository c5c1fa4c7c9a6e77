-- What are the cells of a hive that was judged? (This project's own.)
use Rattle.std.specs.Prelude.{ℕ, Result, Ok, Err}
use Rattle.nt_bytes.specs.declared.fault.ReadStop.{ReadStop}
use Rattle.nt_bytes.specs.declared.fault.ReadStop.TheVariants as read
use Rattle.hive_model.specs.Base.{version_of}
use Rattle.hive_model.specs.Bins.{look_up}
use Rattle.hive_model.specs.Image.{Image}
use Rattle.hive_model.specs.Recovery.{Recovered}
use Rattle.hive_model.specs.Tree.{Tree}
use Rattle.hive_model.specs.Valid.{HoldsKeys}
use Rattle.hive_model.specs.Stands.{Stands}
use Rattle.hive_model.specs.Load.{LoadsAs, LoadFault, Holds, HeldFault, state_of}
use Rattle.key_command.specs.declared.judged_cells.judging.JudgedCells.{JudgedCells}

-- the tree is at the root of the cells, and each of its keys is one that a hive can hold
pub record HasTree (judged : JudgedCells) (tree : Tree) : Type 0 where
  pub stands : Stands (look_up judged.version judged.cells) judged.root tree
  pub keys : HoldsKeys tree

-- what was recovered is held in a tree of the cells
pub record AreOf (found : Recovered) (judged : JudgedCells) : Type 0 where
  pub tree : Tree
  pub holds : Holds found (state_of tree found.base.first (version_of found.base.minor))
  pub has : HasTree judged tree

-- of what was recovered: its cells, or its first fault
abbrev pub JudgesIn : Recovered → Result JudgedCells ReadStop → Type 0
JudgesIn found (Ok judged) = AreOf found judged
JudgesIn found (Err (read.Fault f)) = HeldFault found f
JudgesIn found (Err read.Memory) = Unit {0}

-- the image loads as a state whose tree is in the cells
pub record AreLoaded (image : Image) (judged : JudgedCells) : Type 0 where
  pub tree : Tree
  pub number : ℕ
  pub minor : ℕ
  pub loads : LoadsAs image (state_of tree number (version_of minor))
  pub has : HasTree judged tree

-- of an image: the cells of the state that it loads as, or its first fault
abbrev pub JudgesCells : Image → Result JudgedCells ReadStop → Type 0
JudgesCells image (Ok judged) = AreLoaded image judged
JudgesCells image (Err (read.Fault f)) = LoadFault image f
JudgesCells image (Err read.Memory) = Unit {0}
