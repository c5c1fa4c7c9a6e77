-- Which hives does a load read as salvage does, without their log?
use Rattle.std.specs.Prelude.{◌≡◌, ◌≤◌, ℕ, List, []}
use Rattle.hive_model.specs.Limits.{most_bins}
use Rattle.hive_model.specs.Base.{fields_of}
use Rattle.windows_logs.specs.log_parts.Filled.{filled}
use Rattle.salvage_file.specs.Faults.{head_of, base_faults}

-- A hive's file whose size is at most 16 MiB, and whose two numbers are equal or whose base block has a fault.
pub record IsPlain (hive : List ℕ) : Type 0 where
  pub small : (fields_of (head_of (filled hive))).size ≤ most_bins
  pub even : base_faults (head_of (filled hive)) 0 ≡ [] → (fields_of (head_of (filled hive))).first ≡ (fields_of (head_of (filled hive))).second

-- The sizes of a hive and of its log are at most 16 MiB.
pub record AreSmall (hive log : List ℕ) : Type 0 where
  pub hive_small : (fields_of (head_of (filled hive))).size ≤ most_bins
  pub log_small : (fields_of (head_of (filled log))).size ≤ most_bins
