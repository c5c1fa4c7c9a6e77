-- What is wrong with the filter drivers of a device class?
--
-- The class keys and their two lists of filter drivers: Windows Internals, 4th edition, driver loading. That a class is reported whether a device
-- has it or not is this project's own.
use Rattle.std.specs.Prelude.{ℕ, ◌&&◌, if◌then◌else◌, List, [], ◌∷◌, ◌++◌, map, filter, codes, Option, Some, None, unwrap_or}
use Rattle.std.specs.List.{flat_map}
use Rattle.hive_model.specs.Tree.{Tree, head}
use Rattle.device_rule.specs.declared.lines.Driver.{Driver}
use Rattle.device_rule.specs.declared.lines.Role.{Role}
use Rattle.device_rule.specs.declared.lines.Role.TheVariants.{Lower, Upper}
use Rattle.device_rule.specs.declared.lines.Field.{Field}
use Rattle.device_rule.specs.declared.lines.DeviceLine.{DeviceLine}
use Rattle.device_rule.specs.declared.lines.DeviceLine.TheVariants as lines
use Rattle.device_rule.specs.Values.{text_of, names_of}
use Rattle.device_rule.specs.Drivers.{driver_of, is_prevented}
use Rattle.device_rule.specs.Database.{is_asked}
use Rattle.device_rule.specs.Devices.{has_malformed, filter_fields}

-- what the class of a key is called
abbrev pub label_of : Tree → List ℕ
label_of t = unwrap_or (text_of (codes "Class") t) (head t).name

-- ---- malformed lists

abbrev pub malformed_at : Tree → Field → DeviceLine
malformed_at t field = lines.ClassMalformed field (label_of t) (head t).name

-- they are no driver's, so that they are left out where one is asked for
abbrev pub malformed_of : Option (List ℕ) → Tree → List DeviceLine
malformed_of None t = map (malformed_at t) (filter (has_malformed t) filter_fields)
malformed_of (Some name) t = []

-- ---- prevented filters

abbrev pub filter_when : Option (List ℕ) → Role → Tree → Driver → List DeviceLine
filter_when of role t driver =
    if is_prevented driver.state && is_asked of driver then lines.ClassFilter role (label_of t) (head t).name driver ∷ [] else []

abbrev pub filter_line : List Tree → Option (List ℕ) → Role → Tree → List ℕ → List DeviceLine
filter_line services of role t name = filter_when of role t (driver_of services name)

abbrev pub filter_lines : List Tree → Option (List ℕ) → Role → Tree → List (List ℕ) → List DeviceLine
filter_lines services of role t names = flat_map (filter_line services of role t) names

-- ---- the class

abbrev pub class_lines : List Tree → Option (List ℕ) → Tree → List DeviceLine
class_lines services of t =
    malformed_of of t
    ++ filter_lines services of Lower t (names_of (codes "LowerFilters") t)
    ++ filter_lines services of Upper t (names_of (codes "UpperFilters") t)

abbrev pub all_class_lines : List Tree → Option (List ℕ) → List Tree → List DeviceLine
all_class_lines services of classes = flat_map (class_lines services of) classes
