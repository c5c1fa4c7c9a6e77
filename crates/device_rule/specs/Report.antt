-- What is reported of the devices of a control set? (the lines and their order: this project's own)
use Rattle.std.specs.Prelude.{ℕ, ◌+◌, Bool, not, ◌&&◌, ◌||◌, ◌==◌, List, [], ◌∷◌, ◌++◌, map, filter, length, sum_by, codes, Option, Some, None, option_map, unwrap_or}
use Rattle.std.specs.List.{flat_map}
use Rattle.std.specs.Option.{is_some}
use Rattle.hive_model.specs.Tree.{Tree, find_key}
use Rattle.start_model.specs.Sets.{select_numbers_of}
use Rattle.select_keys.specs.Sets.{usable_set}
use Rattle.device_rule.specs.declared.lines.DeviceLine.{DeviceLine}
use Rattle.device_rule.specs.declared.lines.DeviceLine.TheVariants as lines
use Rattle.device_rule.specs.declared.scope.Scope.{Scope}
use Rattle.device_rule.specs.declared.scope.SetKeys.{SetKeys}
use Rattle.device_rule.specs.declared.scope.DeviceSet.{DeviceSet}
use Rattle.device_rule.specs.declared.scope.Selection.{Selection}
use Rattle.device_rule.specs.declared.block.Block.{Block}
use Rattle.device_rule.specs.Values.{children_of}
use Rattle.device_rule.specs.Drivers.{asked_driver}
use Rattle.device_rule.specs.Database.{critical_lines}
use Rattle.device_rule.specs.Devices.{line_when, devices_of, block_of, block_findings, has_asked}
use Rattle.device_rule.specs.Classes.{all_class_lines}

-- ---- the set of a tree

-- the number of the set that is reported: the one that is asked for, or the Default that a start takes
abbrev pub told_number : Option ℕ → Tree → ℕ
told_number asked tree = unwrap_or asked (select_numbers_of tree).default

-- the four keys of a set
abbrev pub set_keys : Tree → SetKeys
set_keys set = record {
  services = find_key (codes "Services" ∷ []) set;
  devices = find_key (codes "Enum" ∷ []) set;
  classes = find_key (codes "Control" ∷ codes "Class" ∷ []) set;
  database = find_key (codes "Control" ∷ codes "CriticalDeviceDatabase" ∷ []) set;
}

-- the same of the set of a number, where the tree has it
abbrev pub keys_of : Tree → ℕ → Option SetKeys
keys_of tree number = option_map set_keys (usable_set tree number)

-- what the keys of a set are read as
abbrev pub scope_of : SetKeys → Scope
scope_of keys = record {
  services = children_of keys.services;
  classes = children_of keys.classes;
  database = children_of keys.database;
}

abbrev pub set_of : SetKeys → DeviceSet
set_of keys = record {
  has_enum = is_some keys.devices;
  has_database = is_some keys.database;
  scope = scope_of keys;
  devices = devices_of keys.devices;
}

-- ---- blocks

-- the block is reported: it has the driver and the finding that are asked for
abbrev pub is_shown : Selection → Block → Bool
is_shown only block = has_asked only.of block.lines && (not only.findings || not (block_findings block == 0))

abbrev pub all_blocks : DeviceSet → Bool → List Block
all_blocks set ids = map (block_of ids set.scope) set.devices

-- the blocks that are reported
abbrev pub blocks_in : DeviceSet → Selection → List Block
blocks_in set only = filter (is_shown only) (all_blocks set only.ids)

abbrev pub lines_in : Block → List DeviceLine
lines_in block = block.lines

-- ---- the lines before them

abbrev pub of_lines : List Tree → Option (List ℕ) → List DeviceLine
of_lines services None = []
of_lines services (Some name) = lines.Of (asked_driver services name) ∷ []

abbrev pub database_lines : DeviceSet → Selection → List DeviceLine
database_lines set only = line_when ((only.ids || only.critical) && not set.has_database) lines.NoDatabase

abbrev pub opening_lines : ℕ → DeviceSet → Selection → List DeviceLine
opening_lines number set only = lines.Set number ∷ of_lines set.scope.services only.of ++ database_lines set only

abbrev pub enum_lines : DeviceSet → List DeviceLine
enum_lines set = line_when (not set.has_enum) lines.NoEnum

-- ---- the lines after them

-- what is reported of the class keys: findings all
abbrev pub class_part : DeviceSet → Selection → List DeviceLine
class_part set only = all_class_lines set.scope.services only.of set.scope.classes

abbrev pub closing_lines : ℕ → ℕ → ℕ → List DeviceLine
closing_lines shown all found = lines.Devices shown all ∷ lines.Found found ∷ lines.End ∷ []

-- ---- the whole

-- the lines with findings
abbrev pub finding_lines : DeviceSet → Selection → List DeviceLine
finding_lines set only = enum_lines set ++ flat_map lines_in (blocks_in set only) ++ class_part set only

-- how many findings are reported
abbrev pub found_in : DeviceSet → Selection → ℕ
found_in set only = length (enum_lines set) + sum_by block_findings (blocks_in set only) + length (class_part set only)

abbrev pub set_lines : ℕ → DeviceSet → Selection → List DeviceLine
set_lines number set only =
    opening_lines number set only ++ finding_lines set only ++ critical_lines only.critical set.scope only.of
    ++ closing_lines (length (blocks_in set only)) (length set.devices) (found_in set only)

-- what is reported of a set, where it is there
unfoldable pub device_lines : ℕ → Option SetKeys → Selection → List DeviceLine
device_lines number None only = lines.NoSet number ∷ lines.Found 1 ∷ lines.End ∷ []
device_lines number (Some keys) only = set_lines number (set_of keys) only

-- how many findings that has
unfoldable pub device_findings : Option SetKeys → Selection → ℕ
device_findings None only = 1
device_findings (Some keys) only = found_in (set_of keys) only
