-- What does the number of findings tell? (this project's own)
use Rattle.std.specs.Prelude.{◌≡◌, ◌↔◌, ℕ, Bool, true, false, not, ◌&&◌, ◌||◌, List, ◌++◌, codes, Option, Some, None}
use Rattle.std.specs.List.{list_all, list_any}
use Rattle.std.specs.Option.{is_some, option_to_list}
use Rattle.hive_model.specs.Tree.{Tree}
use Rattle.device_rule.specs.declared.device.Device.{Device}
use Rattle.device_rule.specs.declared.scope.SetKeys.{SetKeys}
use Rattle.device_rule.specs.declared.scope.Selection.{Selection}
use Rattle.device_rule.specs.Values.{text_of, names_of, children_of}
use Rattle.device_rule.specs.Drivers.{state_of, is_prevented}
use Rattle.device_rule.specs.Devices.{device_state, is_enabled, devices_of, class_of, class_names, filter_fields, all_fields, has_malformed}
use Rattle.device_rule.specs.Report.{device_lines, device_findings}
use Rattle.device_laws.specs.Told.{findings_told}

-- ---- the number

-- the number is that of the findings that are told
abbrev pub FindingsAreTold : Type 0
FindingsAreTold = (number : ℕ) (keys : Option SetKeys) (only : Selection)
    → findings_told (device_lines number keys only) ≡ device_findings keys only

-- the driver that is asked for, and nothing else
abbrev pub only_of : Option (List ℕ) → Selection
only_of of = record { of = of; findings = false; ids = false; critical = false }

-- it is the same whatever is shown of it
abbrev pub FindingsStay : Type 0
FindingsStay = (keys : Option SetKeys) (only : Selection) → device_findings keys only ≡ device_findings keys (only_of only.of)

-- ---- nothing is found

-- the driver of the name is `ok` or `built-in`
abbrev pub is_good : List Tree → List ℕ → Bool
is_good services name = not (is_prevented (state_of services name))

-- all names in the stack of a device
abbrev pub stack_names : Option Tree → Tree → List (List ℕ)
stack_names class t =
    names_of (codes "LowerFilters") t
    ++ class_names (codes "LowerFilters") class
    ++ option_to_list (text_of (codes "Service") t)
    ++ names_of (codes "UpperFilters") t
    ++ class_names (codes "UpperFilters") class

-- where it is enabled: they are good, and no value of it is malformed
abbrev pub is_sound_device : List Tree → List Tree → Device → Bool
is_sound_device services classes d =
    not (is_enabled (device_state d.key))
    || (not (list_any (has_malformed d.key) all_fields)
    && list_all (is_good services) (stack_names (class_of classes (text_of (codes "ClassGUID") d.key)) d.key))

-- its filters are good, and neither list is malformed
abbrev pub is_sound_class : List Tree → Tree → Bool
is_sound_class services t =
    not (list_any (has_malformed t) filter_fields)
    && list_all (is_good services) (names_of (codes "LowerFilters") t) && list_all (is_good services) (names_of (codes "UpperFilters") t)

-- the set and its Enum are there, and each device and class is so
abbrev pub is_sound : Option SetKeys → Bool
is_sound None = false
is_sound (Some keys) =
    is_some keys.devices
    && list_all (is_sound_device (children_of keys.services) (children_of keys.classes)) (devices_of keys.devices)
    && list_all (is_sound_class (children_of keys.services)) (children_of keys.classes)

-- nothing is found of all devices exactly where it is so
abbrev pub NothingFoundIsSound : Type 0
NothingFoundIsSound = (keys : Option SetKeys) (only : Selection) → only.of ≡ None
    → ((device_findings keys only ≡ 0) ↔ (is_sound keys ≡ true))
