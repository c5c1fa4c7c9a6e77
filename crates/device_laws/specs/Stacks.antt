-- Which drivers does a block tell? (this project's own)
use Rattle.std.specs.Prelude.{◌≡◌, ℕ, List, [], ◌∷◌, ◌++◌, map, codes, Option, Some, None}
use Rattle.std.specs.List.{flat_map}
use Rattle.hive_model.specs.Tree.{Tree}
use Rattle.device_rule.specs.declared.lines.Driver.{Driver}
use Rattle.device_rule.specs.declared.lines.Role.{Role}
use Rattle.device_rule.specs.declared.lines.Role.TheVariants.{Lower, ClassLower, Function, Upper, ClassUpper}
use Rattle.device_rule.specs.declared.lines.DeviceLine.{DeviceLine}
use Rattle.device_rule.specs.declared.lines.DeviceLine.TheVariants as lines
use Rattle.device_rule.specs.declared.device.Device.{Device}
use Rattle.device_rule.specs.declared.scope.SetKeys.{SetKeys}
use Rattle.device_rule.specs.declared.scope.Selection.{Selection}
use Rattle.device_rule.specs.Values.{text_of, names_of, children_of}
use Rattle.device_rule.specs.Drivers.{driver_of}
use Rattle.device_rule.specs.Devices.{devices_of, class_of, class_names}
use Rattle.device_rule.specs.Report.{device_lines}
use Rattle.device_laws.specs.Told.{blocks_told}
use Rattle.device_laws.specs.Blocks.{of_all}

-- a place of a stack: a driver, or that there is no function driver
pub data Place : Type 0 where
  Loaded : Role → Driver → Place
  NoFunction : Place

-- ---- what is told

abbrev pub place_told : DeviceLine → List Place
place_told (lines.Load role driver) = Loaded role driver ∷ []
place_told lines.NoService = NoFunction ∷ []
place_told line = []

-- the stack that a block tells
abbrev pub stack_told : List DeviceLine → List Place
stack_told block = flat_map place_told block

-- ---- what the values name

abbrev pub place : List Tree → Role → List ℕ → Place
place services role name = Loaded role (driver_of services name)

abbrev pub places : List Tree → Role → List (List ℕ) → List Place
places services role names = map (place services role) names

-- one place, whether there is a function driver or not
abbrev pub function_place : List Tree → Option (List ℕ) → Place
function_place services None = NoFunction
function_place services (Some name) = place services Function name

-- the names of the five values in load order, each as often as it is there, with the state of the driver of that name
abbrev pub stack_by : List Tree → Option Tree → Tree → List Place
stack_by services class t =
    places services Lower (names_of (codes "LowerFilters") t)
    ++ places services ClassLower (class_names (codes "LowerFilters") class)
    ++ function_place services (text_of (codes "Service") t) ∷ []
    ++ places services Upper (names_of (codes "UpperFilters") t)
    ++ places services ClassUpper (class_names (codes "UpperFilters") class)

abbrev pub stack_named : SetKeys → Device → List Place
stack_named keys d =
    stack_by (children_of keys.services) (class_of (children_of keys.classes) (text_of (codes "ClassGUID") d.key)) d.key

-- ---- the law

-- the stack that each block tells is exactly what the values name
abbrev pub StacksAreNamed : Type 0
StacksAreNamed =
    (number : ℕ) (keys : SetKeys) (only : Selection)
    → map stack_told (blocks_told (device_lines number (Some keys) (of_all only))) ≡ map (stack_named keys) (devices_of keys.devices)
