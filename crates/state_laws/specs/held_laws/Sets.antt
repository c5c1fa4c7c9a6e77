-- Can a hive hold the sets that a script leaves of its last start? (this project's own)
use Rattle.std.specs.Prelude.{ℕ, List, Option}
use Rattle.nt_bytes.specs.declared.version.HiveVersion.{HiveVersion}
use Rattle.hive_model.specs.Image.{Image}
use Rattle.hive_model.specs.Load.{Loads}
use Rattle.hive_model.specs.Tree.{Tree}
use Rattle.hive_model.specs.Valid.{HoldsKeys, IsValid}
use Rattle.start_model.specs.Boot.{Choice}
use Rattle.start_model.specs.Events.{Event}
use Rattle.start_model.specs.Possible.{Woken}
use Rattle.quiet_run.specs.Play.{AreHeld}
use Rattle.quiet_run.specs.Watch.{quiet_run_of}
use Rattle.state_laws.specs.state_laws.Tries.{SetsAreHeld}
use Rattle.hive_laws.specs.hive_laws.Whole.{HasBytes}

-- those that the phases read, where it can hold the tree
abbrev pub ReadSetsAreHeld : Type 0
ReadSetsAreHeld =
    (choice : Option ℕ → Choice) (script : List Event) (version : HiveVersion) (tree : Tree) → IsValid tree
    → AreHeld (quiet_run_of choice script version tree).start.phases

-- and the one that the start took, as the live tree has it in the end
abbrev pub LastSetIsHeld : Type 0
LastSetIsHeld =
    (choice : Option ℕ → Choice) (script : List Event) (version : HiveVersion) (tree : Tree) → IsValid tree
    → HoldsKeys (quiet_run_of choice script version tree).set

-- so the premise of the laws on states, needs and nodes holds of each such tree
abbrev pub PremiseOfStates : Type 0
PremiseOfStates =
    (choice : Option ℕ → Choice) (script : List Event) (placed : Woken) → IsValid placed.state.tree → SetsAreHeld choice script placed

-- and of whatever images of bytes load as
abbrev pub PremiseOfLoaded : Type 0
PremiseOfLoaded =
    (choice : Option ℕ → Choice) (script : List Event) (placed : Woken) (image : Image) → HasBytes image
    → Loads image placed.state placed.dirty → SetsAreHeld choice script placed
