-- What is printed of events that are played on a disk, and what is the disk left as?
use Rattle.std.specs.Prelude.{◌≡◌, ℕ, List, map, Option, Some, Result, Ok, Err}
use Rattle.hive_model.specs.Carries.{IsRecoveredAs}
use Rattle.hive_model.specs.Image.{Log, Image, IsFileOf}
use Rattle.hive_model.specs.Load.{Loads}
use Rattle.hive_model.specs.State.{HiveState}
use Rattle.nt_edge.specs.Disk.{DiskState}
use Rattle.hive_store.specs.Changes.{Carried}
use Rattle.boot_script.specs.declared.boot_script.event.Event.{Event}
use Rattle.boot_machine.specs.boot_machine.Views.{event_in}
use Rattle.start_model.specs.Boot.{Choice}
use Rattle.start_model.specs.Fits.{MayLoad}
use Rattle.start_model.specs.Lines.{text_of}
use Rattle.start_model.specs.Possible.{Woken, open_between}
use Rattle.start_model.specs.Quiet.{Quiet, quiet_run_of}
use Rattle.run_laws.specs.last_laws.Last.{last_of}
use Rattle.run_parts.specs.run_parts.Reports.{LeftOf}
use Rattle.sweep_command.specs.declared.sweep_run.playing.Played.{Played}
use Rattle.sweep_command.specs.sweep_run.Swept.{IsLogOf, IsCommitted, IsLogBetween}

-- the quiet run of a script's events
abbrev pub quiet_of : (Option ℕ → Choice) → List Event → Woken → Quiet
quiet_of choice script placed = quiet_run_of choice (map event_in script) placed

-- the last operation of the quiet run of a script's events is a commit, which leads from the one state to the other
abbrev pub EndsBetween : (Option ℕ → Choice) → List Event → Woken → (before after : HiveState) → Type 0
EndsBetween choice script placed before after = last_of choice (map event_in script) placed ≡ Some (open_between before after)

-- whatever the placed image is recovered as, the last operation of the quiet run being a commit, this is said of that
abbrev pub WhereCommitted : (Option ℕ → Choice) → Image → List Event → Woken → (Carried → (before after : HiveState) → Type 0) → Type 0
WhereCommitted choice image script placed P =
    (before after : HiveState) → EndsBetween choice script placed before after → (c : Carried) → IsRecoveredAs image c.base c.bins → P c before after

-- The text is that of the quiet run, and whatever a loss of power leaves of the disk loads as its last state; where its last operation is a
-- commit, that has its log.
pub record Plays (choice : Option ℕ → Choice) (image : Image) (script : List Event) (placed : Woken) (text : List ℕ) (disk : DiskState) : Type 0 where
  pub said : text ≡ text_of (quiet_of choice script placed).lines
  pub left : (c : Image) → LeftOf disk c → MayLoad (quiet_of choice script placed).state.disk c
  pub logged : WhereCommitted choice image script placed (λ c before after. (held : Image) → LeftOf disk held → IsCommitted c before after held)

-- from whatever state the image loads as
abbrev pub PlaysOn : {E : Type 0} → (Option ℕ → Choice) → Image → List Event → Result (List ℕ) E → DiskState → Type 0
PlaysOn choice image script (Ok text) disk = (placed : Woken) → Loads image placed.state placed.dirty → Plays choice image script placed text disk
PlaysOn choice image script (Err e) disk = Unit {0}

-- The text of the quiet run, and the log of a disk that loads as its last state. Where the last operation of that run is a commit, the log
-- is that commit's.
pub record IsPlayed (choice : Option ℕ → Choice) (image : Image) (script : List Event) (placed : Woken) (played : Played) : Type 0 where
  pub said : played.said ≡ text_of (quiet_of choice script placed).lines
  pub log : IsLogOf (quiet_of choice script placed).state.disk played.log
  pub logged : WhereCommitted choice image script placed (λ c before after. IsLogBetween c before after played.log)

-- the log's file was taken from what a loss of power leaves of the disk
abbrev pub Taken : {E : Type 0} → List ℕ → DiskState → Result Played E → Type 0
Taken said disk (Ok played) = (played.said ≡ said) × ((image : Image) × (LeftOf disk image × IsFileOf image Log played.log))
Taken said disk (Err e) = Unit {0}
