-- The same of a hive's file with its log.
use Rattle.std.proofs.Common.{◌≡◌, ℕ, Bool, true, false, List}
use Rattle.nt_bytes.specs.declared.version.HiveVersion.{HiveVersion}
use Rattle.windows_logs.specs.log_parts.Filled.{filled}
use Rattle.salvage_bins.specs.Layout.{layout_of}
use Rattle.salvage_file.specs.Opened.{opened}
use Rattle.salvage_file.specs.Salvage.{version_in, ground_in, found_in, found_by_parents, salvaged_as}
use Rattle.found_laws.specs.parent_laws.Within.{AddsOnly}
use Rattle.found_laws.proofs.Withins.{adds-only, same-lines}

bins-add : (version : HiveVersion) (bytes : List ℕ) (root : ℕ)
    → AddsOnly (found_in version bytes root).tree (found_by_parents version bytes root).tree
unfolding found_in found_by_parents
bins-add version bytes root = adds-only (ground_in version bytes (layout_of bytes).marks) root

bins-lines : (version : HiveVersion) (bytes : List ℕ) (root : ℕ)
    → (found_by_parents version bytes root).lines ≡ (found_in version bytes root).lines
unfolding found_in found_by_parents
bins-lines version bytes root = same-lines (ground_in version bytes (layout_of bytes).marks) root

pub files-add : (save : Bool) (hive log : List ℕ) → AddsOnly (salvaged_as false save hive log).tree (salvaged_as true save hive log).tree
unfolding salvaged_as
files-add save hive log =
    let o = opened (filled hive) (filled log) in bins-add (version_in o.base.minor) o.bins o.base.root

pub files-lines : (save : Bool) (hive log : List ℕ) → (salvaged_as true save hive log).lines ≡ (salvaged_as false save hive log).lines
unfolding salvaged_as
files-lines save hive log =
    let o = opened (filled hive) (filled log) in bins-lines (version_in o.base.minor) o.bins o.base.root
