-- What do devices lose with a driver that is turned off? (this project's own)
use Rattle.std.specs.Prelude.{◌≡◌, ℕ, Bool, true, false, not, ◌&&◌, ◌||◌, if◌then◌else◌, List, [], ◌∷◌, ◌++◌, map, filter, find, codes, Some, None, option_map}
use Rattle.std.specs.List.{list_any, flat_map}
use Rattle.std.specs.Option.{is_some}
use Rattle.std.specs.Int.{w32, to_le_bytes}
use Rattle.nt_bytes.specs.Folding.{folds_same}
use Rattle.hive_model.specs.Tree.{Tree, head, is_named}
use Rattle.hive_model.specs.Edit.{of_items, with_item, at_key}
use Rattle.device_rule.specs.declared.lines.Driver.{Driver}
use Rattle.device_rule.specs.declared.lines.DriverState.{DriverState}
use Rattle.device_rule.specs.declared.lines.DriverState.TheVariants as states
use Rattle.device_rule.specs.declared.lines.Role.{Role}
use Rattle.device_rule.specs.declared.lines.Role.TheVariants.{Lower, Upper}
use Rattle.device_rule.specs.declared.lines.DeviceLine.{DeviceLine}
use Rattle.device_rule.specs.declared.lines.DeviceLine.TheVariants as lines
use Rattle.device_rule.specs.declared.scope.SetKeys.{SetKeys}
use Rattle.device_rule.specs.declared.scope.Selection.{Selection}
use Rattle.device_rule.specs.Values.{names_of, children_of}
use Rattle.device_rule.specs.Drivers.{is_built_in}
use Rattle.device_rule.specs.Devices.{is_fault, is_load_of}
use Rattle.device_rule.specs.Classes.{label_of}
use Rattle.device_rule.specs.Report.{device_lines}
use Rattle.device_laws.specs.Told.{blocks_told}
use Rattle.device_laws.specs.Blocks.{of_all}

-- ---- a service turned off

-- `Services` with the Start of the service of a name a DWORD of 4, by the edit of the book of hives
abbrev pub turned_off : List ℕ → Tree → Tree
turned_off name services = at_key (name ∷ []) (of_items (with_item (codes "Start") 4 (to_le_bytes w32 4))) services

abbrev pub without_driver : List ℕ → SetKeys → SetKeys
without_driver name keys = record keys { services = option_map (turned_off name) keys.services }

-- `Services` has a key of this name; no key has a name that begins with `\Driver\`
pub record IsService (name : List ℕ) (keys : SetKeys) : Type 0 where
  pub there : is_some (find (is_named name) (children_of keys.services)) ≡ true
  pub plain : is_built_in name ≡ false

-- ---- the lines that it changes

-- the driver, disabled where it has this name
abbrev pub lost_driver : List ℕ → Driver → Driver
lost_driver name driver = if folds_same name driver.name then record { name = driver.name; state = states.Disabled } else driver

-- the line, in which the driver of this name is disabled where it is loaded
abbrev pub lost_line : List ℕ → DeviceLine → DeviceLine
lost_line name (lines.Load role driver) = lines.Load role (lost_driver name driver)
lost_line name line = line

-- in each block these lines become those, and no other changes
abbrev pub LinesAreLost : Type 0
LinesAreLost =
    (number : ℕ) (keys : SetKeys) (only : Selection) (name : List ℕ) → IsService name keys → only.ids ≡ false
    → blocks_told (device_lines number (Some (without_driver name keys)) (of_all only))
    ≡ map (map (lost_line name)) (blocks_told (device_lines number (Some keys) (of_all only)))

-- ---- who loses it

abbrev pub is_disabled : DriverState → Bool
is_disabled states.Disabled = true
is_disabled state = false

-- the line loads the driver of this name, and it is disabled
abbrev pub is_loss : List ℕ → DeviceLine → Bool
is_loss name (lines.Load role driver) = folds_same name driver.name && is_disabled driver.state
is_loss name line = false

-- the same question for the devices that load the driver of a name
abbrev pub of_driver : List ℕ → Selection → Selection
of_driver name only = record only { of = Some name; findings = false }

-- the blocks with such a line are then exactly those that are told for this name before
abbrev pub LosersAreTold : Type 0
LosersAreTold =
    (number : ℕ) (keys : SetKeys) (only : Selection) (name : List ℕ) → IsService name keys → only.ids ≡ false
    → filter (list_any (is_loss name)) (blocks_told (device_lines number (Some (without_driver name keys)) (of_all only)))
    ≡ map (map (lost_line name)) (blocks_told (device_lines number (Some keys) (of_driver name only)))

-- a line is a finding then where it was one, or where it loads the driver
abbrev pub LossesAreFindings : Type 0
LossesAreFindings = (name : List ℕ) (line : DeviceLine) → is_fault (lost_line name line) ≡ (is_fault line || is_load_of name line)

-- ---- classes

-- the line tells of a filter driver of a class, of this name
abbrev pub is_filter_of : List ℕ → DeviceLine → Bool
is_filter_of name (lines.ClassFilter role class key driver) = folds_same name driver.name
is_filter_of name line = false

-- of another one
abbrev pub is_other_filter : List ℕ → DeviceLine → Bool
is_other_filter name (lines.ClassFilter role class key driver) = not (folds_same name driver.name)
is_other_filter name line = false

abbrev pub filter_loss : Role → Tree → List ℕ → DeviceLine
filter_loss role t name = lines.ClassFilter role (label_of t) (head t).name (record { name = name; state = states.Disabled })

-- each filter of a class that has this name
abbrev pub class_losses : List ℕ → Tree → List DeviceLine
class_losses name t =
    map (filter_loss Lower t) (filter (folds_same name) (names_of (codes "LowerFilters") t))
    ++ map (filter_loss Upper t) (filter (folds_same name) (names_of (codes "UpperFilters") t))

-- then each filter of this name is told, and the others are told as before
abbrev pub FiltersAreLost : Type 0
FiltersAreLost =
    (number : ℕ) (keys : SetKeys) (only : Selection) (name : List ℕ) → IsService name keys → only.of ≡ None
    → filter (is_filter_of name) (device_lines number (Some (without_driver name keys)) only)
    ≡ flat_map (class_losses name) (children_of keys.classes)

abbrev pub OtherFiltersStay : Type 0
OtherFiltersStay =
    (number : ℕ) (keys : SetKeys) (only : Selection) (name : List ℕ) → IsService name keys → only.of ≡ None
    → filter (is_other_filter name) (device_lines number (Some (without_driver name keys)) only)
    ≡ filter (is_other_filter name) (device_lines number (Some keys) only)
