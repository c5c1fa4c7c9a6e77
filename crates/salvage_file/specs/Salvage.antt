-- What is salvaged of a damaged hive (this project's own)?
use Rattle.std.specs.Prelude.{ℕ, ◌/◌, ◌==◌, Bool, if◌then◌else◌, List, [], length, Option, Some, None}
use Rattle.nt_bytes.specs.declared.version.HiveVersion.{HiveVersion}
use Rattle.nt_bytes.specs.declared.version.HiveVersion.TheVariants.{V3, V5}
use Rattle.hive_model.specs.Base.{Base, fields_of}
use Rattle.hive_model.specs.Tree.{Tree}
use Rattle.windows_logs.specs.log_parts.Filled.{filled}
use Rattle.salvage_bins.specs.declared.layout.Mark.{Mark}
use Rattle.salvage_bins.specs.Layout.{Laid, layout_of}
use Rattle.salvage_bins.specs.Ground.{Ground, mark_at, payload_by, is_loose}
use Rattle.salvage_walk.specs.declared.lines.WalkLine.{WalkLine}
use Rattle.salvage_walk.specs.Keys.{answer_of, salvaged}
use Rattle.salvage_parents.specs.declared.search.SearchedTree.{SearchedTree}
use Rattle.salvage_parents.specs.Search.{salvaged_by_parents}
use Rattle.salvage_file.specs.declared.opening.Opened.{Opened}
use Rattle.salvage_file.specs.declared.saving.Saving.{Saving}
use Rattle.salvage_file.specs.declared.salvaging.BinsFound.{BinsFound}
use Rattle.salvage_file.specs.declared.salvaging.SalvagedHive.{SalvagedHive}
use Rattle.salvage_file.specs.Faults.{head_of, has_signature}
use Rattle.salvage_file.specs.Opened.{opened}
use Rattle.salvage_file.specs.Saving.{kept_base, saving_of}

-- the version in which a hive of this minor number is read
abbrev pub version_in : ℕ → HiveVersion
version_in minor = if minor == 3 then V3 else V5

-- the cells of bins data with these marks
abbrev pub ground_in : HiveVersion → List ℕ → List Mark → Ground
ground_in version bytes marks = record {
  cells = record { version = version; payload = λ at. payload_by (mark_at bytes marks at) bytes at };
  loose = λ at. is_loose (mark_at bytes marks at);
  slots = length bytes / 8;
}

abbrev pub found_with : Laid → Option Tree × List WalkLine → BinsFound
found_with laid walk = record { broken = laid.broken; lines = walk.1; said = []; tree = walk.0 }

abbrev pub found_by : HiveVersion → List ℕ → ℕ → Laid → BinsFound
found_by version bytes root laid = found_with laid (answer_of (salvaged (ground_in version bytes laid.marks) root))

-- what is found in bins data: the bins that are not whole, the tree, and the lines on the way
unfoldable pub found_in : HiveVersion → List ℕ → ℕ → BinsFound
found_in version bytes root = found_by version bytes root (layout_of bytes)

-- the same where keys are looked for by their parents too
abbrev pub found_after : Laid → SearchedTree → BinsFound
found_after laid found = record { broken = laid.broken; lines = found.lines; said = found.said; tree = found.tree }

abbrev pub found_by_parent : HiveVersion → List ℕ → ℕ → Laid → BinsFound
found_by_parent version bytes root laid = found_after laid (salvaged_by_parents (ground_in version bytes laid.marks) root)

unfoldable pub found_by_parents : HiveVersion → List ℕ → ℕ → BinsFound
found_by_parents version bytes root = found_by_parent version bytes root (layout_of bytes)

-- what is found in bins data, perhaps by parents too
abbrev pub found_as : Bool → HiveVersion → List ℕ → ℕ → BinsFound
found_as by_parent version bytes root = if by_parent then found_by_parents version bytes root else found_in version bytes root

-- what would be saved, where that is asked for
abbrev pub saving_as : Bool → Base → HiveVersion → Option Tree → Option Saving
saving_as save base version tree = if save then Some (saving_of base version tree) else None

abbrev pub hive_with : Bool → List ℕ → Opened → BinsFound → SalvagedHive
hive_with save head o found = record {
  first = (fields_of head).first;
  second = (fields_of head).second;
  state = o.state;
  version = version_in o.base.minor;
  faults = o.faults;
  log = o.log;
  broken = found.broken;
  lines = found.lines;
  said = found.said;
  tree = found.tree;
  saving = saving_as save (kept_base (has_signature head) o.base) (version_in o.base.minor) found.tree;
}

abbrev pub hive_by : Bool → List ℕ → Opened → SalvagedHive
hive_by save head o = hive_with save head o (found_in (version_in o.base.minor) o.bins o.base.root)

-- what is salvaged of a hive's file with its log, which is empty where there is none, by the lists of its keys alone
unfoldable pub salvaged_hive : Bool → List ℕ → List ℕ → SalvagedHive
salvaged_hive save hive log = hive_by save (head_of (filled hive)) (opened (filled hive) (filled log))

abbrev pub hive_as : Bool → Bool → List ℕ → Opened → SalvagedHive
hive_as by_parent save head o = hive_with save head o (found_as by_parent (version_in o.base.minor) o.bins o.base.root)

-- the same, perhaps with the keys that are found by their parents
unfoldable pub salvaged_as : Bool → Bool → List ℕ → List ℕ → SalvagedHive
salvaged_as by_parent save hive log = hive_as by_parent save (head_of (filled hive)) (opened (filled hive) (filled log))
