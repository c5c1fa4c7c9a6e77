-- Which fault does a report say first?
use Rattle.std.specs.Prelude.{◌≡◌, ◌⊎◌, List, [], ◌∷◌, Option, Some, None}
use Rattle.nt_bytes.specs.declared.fault.HiveFault.{HiveFault}
use Rattle.nt_bytes.specs.declared.fault.HiveFaultKind.TheVariants.{Count, Size}
use Rattle.hive_model.specs.Base.{fault_at}
use Rattle.hive_model.specs.Bins.{or_else}
use Rattle.salvage_bins.specs.declared.layout.BrokenBin.{BrokenBin}
use Rattle.salvage_walk.specs.declared.lines.WalkLine.{WalkLine}
use Rattle.salvage_walk.specs.declared.lines.WalkLine.TheVariants as lines
use Rattle.salvage_file.specs.declared.recovery.LogStop.{LogStop}
use Rattle.salvage_file.specs.declared.salvaging.BinsFound.{BinsFound}
use Rattle.salvage_file.specs.declared.salvaging.SalvagedHive.{SalvagedHive}

-- the fault that a line names, and where; none in a line that says which root there is
abbrev pub line_fault : WalkLine → Option HiveFault
line_fault (lines.Root fault) = Some fault
line_fault (lines.RootAt at) = None
line_fault lines.NoRoot = None
line_fault (lines.Key fault path) = Some fault
line_fault (lines.KeyAt fault i path) = Some fault
line_fault (lines.Part fault of path) = Some fault
line_fault (lines.Value fault name path) = Some fault
line_fault (lines.ValueAt fault i path) = Some fault
line_fault (lines.Nothing at path) = Some (fault_at Count at)

-- the fault of the first line
abbrev pub first_told : List WalkLine → Option HiveFault
first_told [] = None
first_told (line ∷ more) = line_fault line

-- the fault of the first bin that is not whole
abbrev pub first_broken : List BrokenBin → Option HiveFault
first_broken [] = None
first_broken (bin ∷ more) = Some bin.fault

-- the first fault that is printed of bins data: of a bin, or else of the walk
abbrev pub first_found : BinsFound → Option HiveFault
first_found found = or_else (first_broken found.broken) (first_told found.lines)

-- the first fault of a base block
abbrev pub first_base : List HiveFault → Option HiveFault
first_base [] = None
first_base (fault ∷ more) = Some fault

-- the fault of a log
abbrev pub log_fault : Option LogStop → Option HiveFault
log_fault None = None
log_fault (Some stop) = Some (fault_at stop.kind stop.at)

-- the first fault of a report: of the base block, of the log, of a bin, or of the walk
abbrev pub first_reported : SalvagedHive → Option HiveFault
first_reported s =
    or_else (first_base s.faults) (or_else (log_fault s.log) (or_else (first_broken s.broken) (first_told s.lines)))

-- nothing is printed but the hive's numbers, its version and its keys
pub record IsSilent (s : SalvagedHive) : Type 0 where
  pub faults : s.faults ≡ []
  pub log : s.log ≡ None
  pub broken : s.broken ≡ []
  pub lines : s.lines ≡ []

-- this fault is printed first; or first that the file is too short, and then that the log has this fault
abbrev pub TellsFirst : SalvagedHive → HiveFault → Type 0
TellsFirst s fault =
    (first_reported s ≡ Some fault) ⊎ ((first_reported s ≡ Some (fault_at Size 40)) × (log_fault s.log ≡ Some fault))
