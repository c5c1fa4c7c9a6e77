-- What a part of the program leaves of the host and of the disk. This project's own.
use Rattle.std.specs.Prelude.{◌≡◌, ℕ, true, false, List}
use Rattle.nt_edge.specs.Disk.{DiskState}
use Rattle.nt_edge.specs.Host.{HostState, AsksNone}
use Rattle.command_parts.specs.declared.command_parts.status.Status.{Status}
use Rattle.command_parts.specs.declared.command_parts.status.Status.TheVariants as statuses
use Rattle.command_parts.specs.command_parts.Leaves.{Leaves}
use Rattle.command_parts.specs.command_parts.Placed.{IsUntouchedBy}
use Rattle.command_parts.specs.command_parts.Saves.{Saves, FilesAs}

-- which statuses a part of the program ends with, from what was printed before to what was printed then
abbrev pub Ending : Type 1
Ending = Status → List ℕ → List ℕ → Type 0

-- The host is left as the end allows; the files are those that were saved; the disk is off, and untouched after a refusal.
pub record Decides (ends : Ending) (saves : Saves) (status : Status) (old new : HostState) (disk : DiskState) : Type 0 where
  pub leaves : Leaves ends status old new
  pub files : old.tells ≡ true → FilesAs saves status disk old.files new.files
  pub off : disk.on ≡ false
  pub untouched : IsUntouchedBy status disk

-- without an obstacle in words and files: no file was asked for, and bad usage or a read fault is no answer any more
pub record DecidesAlone (ends : Ending) (saves : Saves) (status : Status) (old new : HostState) (disk : DiskState) : Type 0 where
  pub decides : Decides ends saves status old new disk
  pub unasked : AsksNone old new
  pub kept : status ≡ statuses.Usage → ⊥
  pub unread : status ≡ statuses.ReadFault → ⊥
