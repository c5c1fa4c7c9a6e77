-- What is found after a repair? (this project's own)
use Rattle.std.specs.Prelude.{◌≡◌, ℕ, true, false, if◌then◌else◌, List, map, filter, length, codes, Option, Some, None}
use Rattle.std.specs.List.{list_any}
use Rattle.hive_model.specs.Tree.{Tree, head}
use Rattle.device_rule.specs.declared.device.Device.{Device}
use Rattle.device_rule.specs.declared.scope.SetKeys.{SetKeys}
use Rattle.device_rule.specs.declared.scope.Selection.{Selection}
use Rattle.device_rule.specs.Values.{text_of, names_of, children_of}
use Rattle.device_rule.specs.Devices.{device_state, is_enabled, devices_of, class_of, filter_fields, all_fields, has_malformed}
use Rattle.device_rule.specs.Report.{set_of, enum_lines, device_findings}
use Rattle.device_laws.specs.Findings.{is_good, stack_names}

-- the name, where its driver is good
abbrev pub good_only : List Tree → Option (List ℕ) → Option (List ℕ)
good_only services None = None
good_only services (Some name) = if is_good services name then Some name else None

-- a change of class keys that takes away each malformed list, and of the other lists each name whose driver is prevented
pub record RepairsClasses (services : List Tree) (change : Tree → Tree) : Type 0 where
  pub name : (t : Tree) → (head (change t)).name ≡ (head t).name
  pub whole : (t : Tree) → list_any (has_malformed (change t)) filter_fields ≡ false
  pub lower : (t : Tree) → names_of (codes "LowerFilters") (change t) ≡ filter (is_good services) (names_of (codes "LowerFilters") t)
  pub upper : (t : Tree) → names_of (codes "UpperFilters") (change t) ≡ filter (is_good services) (names_of (codes "UpperFilters") t)

-- a change of the keys of devices that takes the same away from enabled ones, and a Service that is prevented
pub record RepairsDevices (services : List Tree) (change : Tree → Tree) : Type 0 where
  pub state : (t : Tree) → device_state (change t) ≡ device_state t
  pub guid : (t : Tree) → text_of (codes "ClassGUID") (change t) ≡ text_of (codes "ClassGUID") t
  pub whole : (t : Tree) → is_enabled (device_state t) ≡ true → list_any (has_malformed (change t)) all_fields ≡ false
  pub service : (t : Tree) → is_enabled (device_state t) ≡ true
      → text_of (codes "Service") (change t) ≡ good_only services (text_of (codes "Service") t)
  pub lower : (t : Tree) → is_enabled (device_state t) ≡ true
      → names_of (codes "LowerFilters") (change t) ≡ filter (is_good services) (names_of (codes "LowerFilters") t)
  pub upper : (t : Tree) → is_enabled (device_state t) ≡ true
      → names_of (codes "UpperFilters") (change t) ≡ filter (is_good services) (names_of (codes "UpperFilters") t)

-- the device with its key changed
abbrev pub changed_device : (Tree → Tree) → Device → Device
changed_device change d = record { path = d.path; key = change d.key }

-- the second keys are the first with their class keys and devices repaired so
pub record IsRepair (before after : SetKeys) (class device : Tree → Tree) : Type 0 where
  pub services : after.services ≡ before.services
  pub classes : children_of after.classes ≡ map class (children_of before.classes)
  pub devices : devices_of after.devices ≡ map (changed_device device) (devices_of before.devices)
  pub class_repairs : RepairsClasses (children_of before.services) class
  pub device_repairs : RepairsDevices (children_of before.services) device

-- then nothing is found but that there is no Enum
abbrev pub RepairedIsSound : Type 0
RepairedIsSound = (before after : SetKeys) (class device : Tree → Tree) (only : Selection) → IsRepair before after class device
    → only.of ≡ None → device_findings (Some after) only ≡ length (enum_lines (set_of after))

-- all names in the stack of a device, by the keys of a set
abbrev pub names_in : SetKeys → Device → List (List ℕ)
names_in keys d = stack_names (class_of (children_of keys.classes) (text_of (codes "ClassGUID") d.key)) d.key

-- and the stack of an enabled device is what was good in it, in the same order
abbrev pub GoodStackStays : Type 0
GoodStackStays = (before after : SetKeys) (class device : Tree → Tree) (d : Device) → IsRepair before after class device
    → is_enabled (device_state d.key) ≡ true
    → names_in after (changed_device device d) ≡ filter (is_good (children_of before.services)) (names_in before d)
