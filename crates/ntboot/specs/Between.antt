-- Which hive stands between two that need their logs? (this project's own)
--
-- It has the place of the old one while the new log takes that of the old log: whatever log lies beside it, it loads as the new hive does
-- with the new log.
use Rattle.std.specs.Prelude.{◌≡◌, true, false, ℕ, List, [], Option, Some, None, Err, unwrap_or}
use Rattle.nt_bytes.specs.declared.fault.HiveFault.{HiveFault}
use Rattle.hive_model.specs.Image.{Image, Primary, Log, IsCrashImage, IsFileOf, image_of}
use Rattle.hive_model.specs.Load.{Loads, LoadsAs}
use Rattle.hive_model.specs.Recovery.{recovered_of}
use Rattle.hive_model.specs.State.{HiveState}
use Rattle.nt_edge.specs.Disk.{DiskState}
use Rattle.command_parts.specs.declared.command_parts.inputs.HiveFiles.{HiveFiles}
use Rattle.command_parts.specs.command_parts.Placed.{image_in}

-- these are the two files of a disk, which settled to what a loss of power may have left
pub record HoldsFiles (disk : DiskState) (files : HiveFiles) : Type 0 where
  pub image : Image
  pub left : IsCrashImage disk.held disk.flight image
  pub hive : IsFileOf image Primary files.primary
  pub log : IsFileOf image Log (unwrap_or files.log [])

-- a hive that loads as the image does, clean, whatever log lies beside it
abbrev pub IsCleanOf : Image → List ℕ → Type 0
IsCleanOf image hive = (log : List ℕ) (s : HiveState) → LoadsAs image s → Loads (image_of hive log) s false

-- there is such a hive, or the image cannot be recovered
abbrev pub IsCleanIn : Image → Option (List ℕ) → Type 0
IsCleanIn image (Some hive) = IsCleanOf image hive
IsCleanIn image None = (fault : HiveFault) × (recovered_of image ≡ Err fault)

-- the same of the two files that a disk holds
pub record StandsBetween (disk : DiskState) (between : Option (List ℕ)) : Type 0 where
  pub files : HiveFiles
  pub held : HoldsFiles disk files
  pub clean : IsCleanIn (image_in files) between

-- ---- its steps

-- the disk is on with these files, and no write is in flight
pub record IsAwakeWith (files : HiveFiles) (disk : DiskState) : Type 0 where
  pub on : disk.on ≡ true
  pub still : disk.flight ≡ []
  pub held : disk.held ≡ image_in files

-- this is the primary of a disk, which settled to what a loss of power may have left
abbrev pub HoldsPrimary : DiskState → Option (List ℕ) → Type 0
HoldsPrimary disk (Some hive) = (image : Image) × IsCrashImage disk.held disk.flight image × IsFileOf image Primary hive
HoldsPrimary disk None = ⊥
