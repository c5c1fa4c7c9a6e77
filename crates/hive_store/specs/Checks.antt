-- What is a hive read as: a tree, a sequence number and a version, or its first fault? (This project's own.)
use Rattle.std.specs.Prelude.{◌≡◌, ℕ, List, Result, Ok, Err}
use Rattle.nt_bytes.specs.declared.version.HiveVersion.{HiveVersion}
use Rattle.nt_bytes.specs.declared.fault.ReadStop.{ReadStop}
use Rattle.nt_bytes.specs.declared.fault.ReadStop.TheVariants as read
use Rattle.hive_model.specs.Base.{version_of}
use Rattle.hive_model.specs.Image.{Image}
use Rattle.hive_model.specs.Recovery.{Recovered}
use Rattle.hive_model.specs.Tree.{Tree}
use Rattle.hive_model.specs.State.{HiveState}
use Rattle.hive_model.specs.Load.{LoadsAs, LoadFault, Holds, HeldFault, state_of}
use Rattle.hive_edit.specs.Hive.{HiveCells}
use Rattle.hive_store.specs.Session.{AreCarried}

-- the state that what was recovered holds with this tree
abbrev pub held_state : Recovered → Tree → HiveState
held_state found tree = state_of tree found.base.first (version_of found.base.minor)

-- of what was recovered: the tree that it holds, with its bins data given back, or its first fault
abbrev pub HoldsAs : Recovered → Result (Tree × List ℕ) ReadStop → Type 0
HoldsAs found (Ok x) = Holds found (held_state found x.0) × (x.1 ≡ found.bins)
HoldsAs found (Err (read.Fault f)) = HeldFault found f
HoldsAs found (Err read.Memory) = Unit {0}

-- the cells of what was recovered, in whose tree it is held
pub record AreOf (found : Recovered) (cells : HiveCells) : Type 0 where
  pub holds : Holds found (held_state found cells.tree)
  pub version : cells.version ≡ version_of found.base.minor
  pub carried : AreCarried found.base found.bins cells

-- of what was recovered: its cells, or its first fault
abbrev pub HoldsIn : Recovered → Result HiveCells ReadStop → Type 0
HoldsIn found (Ok cells) = AreOf found cells
HoldsIn found (Err (read.Fault f)) = HeldFault found f
HoldsIn found (Err read.Memory) = Unit {0}

-- of an image: the tree, the number and the version of the state that it loads as, or its first fault
abbrev pub ChecksAs : Image → Result (Tree × ℕ × HiveVersion) ReadStop → Type 0
ChecksAs image (Ok x) = LoadsAs image (state_of x.0 x.1 x.2)
ChecksAs image (Err (read.Fault f)) = LoadFault image f
ChecksAs image (Err read.Memory) = Unit {0}

-- of what was recovered: that it holds a tree, or its first fault
abbrev pub HoldsSome : Recovered → Result (Unit {0}) ReadStop → Type 0
HoldsSome found (Ok u) = (tree : Tree) × Holds found (held_state found tree)
HoldsSome found (Err (read.Fault f)) = HeldFault found f
HoldsSome found (Err read.Memory) = Unit {0}

-- of an image: the number and the version of the state that it loads as, with some tree, or its first fault
abbrev pub JudgesAs : Image → Result (ℕ × HiveVersion) ReadStop → Type 0
JudgesAs image (Ok x) = (tree : Tree) × LoadsAs image (state_of tree x.0 x.1)
JudgesAs image (Err (read.Fault f)) = LoadFault image f
JudgesAs image (Err read.Memory) = Unit {0}

-- of an image: cells with the tree of the state that it loads as, in its version, with its number, or its first fault
abbrev pub ChecksCells : Image → Result (HiveCells × ℕ × HiveVersion) ReadStop → Type 0
ChecksCells image (Ok x) = LoadsAs image (state_of x.0.tree x.1 x.2) × (x.0.version ≡ x.2)
ChecksCells image (Err (read.Fault f)) = LoadFault image f
ChecksCells image (Err read.Memory) = Unit {0}
