-- What is done to the disk before the run? (this project's own)
use Rattle.std.specs.Prelude.{◌≡◌, ◌≤◌, ◌+◌, ℕ, List, [], length, take, min, Option, Some, None, unwrap_or}
use Rattle.nt_edge.specs.Disk.{DiskState, new_state}
use Rattle.nt_edge.specs.Bench.{placed}
use Rattle.hive_model.specs.Limits.{most_file}
use Rattle.hive_model.specs.Image.{Log, Image, image_of}
use Rattle.command_parts.specs.declared.command_parts.inputs.HiveFiles.{HiveFiles}
use Rattle.command_parts.specs.declared.command_parts.status.Status.{Status}
use Rattle.command_parts.specs.declared.command_parts.status.Status.TheVariants.{Done, WriteFault, Memory}
use Rattle.command_parts.specs.command_parts.Leaves.{named}

-- the image of a hive and its log, which is absent where the command line names none
abbrev pub image_in : HiveFiles → Image
image_in files = image_of files.primary (unwrap_or files.log [])

-- each file that the command line names was placed on a new disk, which is off, and nothing else was done to it
abbrev pub placed_disk : HiveFiles → DiskState
placed_disk files = record new_state { held = image_in files; history = record new_state.history { placings = 1 + named files.log } }

-- with the first 32 MiB of a log placed after, where there is one
abbrev pub with_log : Option (List ℕ) → DiskState → DiskState
with_log None disk = disk
with_log (Some log) disk = placed Log (take (min (length log) most_file) log) disk

-- nothing was done to a new disk but that at most one file was placed
pub record IsUnrun (disk : DiskState) : Type 0 where
  pub few : disk.history.placings ≤ 1
  pub alone : disk ≡ record new_state { held = disk.held; history = record new_state.history { placings = disk.history.placings } }

-- nothing was done to the disk where the status is that of a refusal or of a read fault
abbrev pub IsUntouchedBy : Status → DiskState → Type 0
IsUntouchedBy Done disk = Unit {0}
IsUntouchedBy WriteFault disk = Unit {0}
IsUntouchedBy Memory disk = Unit {0}
IsUntouchedBy refused disk = disk ≡ new_state
