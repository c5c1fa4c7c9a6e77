-- Which trees of a run can a hive hold? (this project's own)
use Rattle.std.specs.Prelude.{ℕ, Bool, List, Option}
use Rattle.hive_model.specs.Image.{Image}
use Rattle.hive_model.specs.Load.{Loads}
use Rattle.hive_model.specs.State.{HiveState}
use Rattle.hive_model.specs.Valid.{IsValid}
use Rattle.start_model.specs.Boot.{Choice}
use Rattle.start_model.specs.Events.{Event}
use Rattle.start_model.specs.Possible.{Woken}
use Rattle.start_model.specs.Quiet.{quiet_run_of}
use Rattle.hive_laws.specs.hive_laws.Whole.{HasBytes}

-- what an image of bytes loads as
abbrev pub LoadedIsValid : Type 0
LoadedIsValid = (image : Image) (state : HiveState) (dirty : Bool) → HasBytes image → Loads image state dirty → IsValid state.tree

-- the live tree at the end of a script, if there was one at its beginning
abbrev pub LiveStaysValid : Type 0
LiveStaysValid =
    (choice : Option ℕ → Choice) (script : List Event) (placed : Woken) → IsValid placed.state.tree
    → IsValid (quiet_run_of choice script placed).state.live

-- and what the disk loads as then
abbrev pub SettledStaysValid : Type 0
SettledStaysValid =
    (choice : Option ℕ → Choice) (script : List Event) (placed : Woken) → IsValid placed.state.tree
    → IsValid (quiet_run_of choice script placed).state.disk.settled.tree
