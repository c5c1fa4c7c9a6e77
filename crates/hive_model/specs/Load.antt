-- What an image of a hive loads as: a state, or the first fault of its recovery, of its bins, and of the tree in them,
-- in this order, in the version of the recovered base block (regf format 1.3 and 1.5, the base block's minor version and
-- root cell; recovery and the order of faults: this project's own).
use Rattle.std.specs.Prelude.{◌≡◌, ◌⊎◌, ℕ, Bool, List, Some, Ok, Err}
use Rattle.nt_bytes.specs.declared.fault.HiveFault.{HiveFault}
use Rattle.nt_bytes.specs.declared.version.HiveVersion.{HiveVersion}
use Rattle.hive_model.specs.Image.{Image}
use Rattle.hive_model.specs.Base.{version_of}
use Rattle.hive_model.specs.Tree.{Tree}
use Rattle.hive_model.specs.Bins.{Bin, IsBins, BinsFault, look_up}
use Rattle.hive_model.specs.Recovery.{Recovered, recovered_of}
use Rattle.hive_model.specs.Walk.{first_fault}
use Rattle.hive_model.specs.Stands.{IsWellFormed}
use Rattle.hive_model.specs.State.{HiveState}

-- What was recovered holds this state: its bins data are bins and cells in which the tree is at the root.
pub record Holds (recovered : Recovered) (state : HiveState) : Type 0 where
  pub bins : List Bin
  pub cells : IsBins recovered.bins bins
  pub tree : IsWellFormed (look_up (version_of recovered.base.minor) bins) recovered.base.root state.tree
  pub sequence : state.sequence ≡ recovered.base.first
  pub version : state.version ≡ version_of recovered.base.minor

-- What was recovered holds cells whose walk has this first fault.
pub record WalkFault (recovered : Recovered) (fault : HiveFault) : Type 0 where
  pub bins : List Bin
  pub cells : IsBins recovered.bins bins
  pub first : first_fault (look_up (version_of recovered.base.minor) bins) recovered.base.root ≡ Some fault

-- The image loads as the state. It was dirty where its log was needed.
pub record Loads (image : Image) (state : HiveState) (dirty : Bool) : Type 0 where
  pub recovered : Recovered
  pub read : recovered_of image ≡ Ok recovered
  pub was_dirty : dirty ≡ recovered.dirty
  pub holds : Holds recovered state

-- the image loads as the state, clean or not
abbrev pub LoadsAs : Image → HiveState → Type 0
LoadsAs image state = (dirty : Bool) × Loads image state dirty

-- the state of this tree under this number in this version
abbrev pub state_of : Tree → ℕ → HiveVersion → HiveState
state_of tree number version = record { tree = tree; sequence = number; version = version }

-- the first fault of what was recovered
abbrev pub HeldFault : Recovered → HiveFault → Type 0
HeldFault recovered fault = BinsFault recovered.bins fault ⊎ WalkFault recovered fault

-- the first fault of the image
abbrev pub LoadFault : Image → HiveFault → Type 0
LoadFault image fault = (recovered_of image ≡ Err fault) ⊎ ((recovered : Recovered) × (recovered_of image ≡ Ok recovered) × HeldFault recovered fault)
