-- On which values does a report depend? (this project's own)
use Rattle.std.specs.Prelude.{◌≡◌, ℕ, Bool, ◌||◌, if◌then◌else◌, List, [], ◌∷◌, map, filter, codes, Option, None, option_map}
use Rattle.std.specs.List.{list_any}
use Rattle.hive_model.specs.Tree.{Tree, Item, key, trees, head, children, is_item}
use Rattle.device_rule.specs.declared.lines.DeviceLine.{DeviceLine}
use Rattle.device_rule.specs.declared.scope.SetKeys.{SetKeys}
use Rattle.device_rule.specs.declared.scope.Selection.{Selection}
use Rattle.device_rule.specs.Report.{told_number, keys_of, device_lines}

-- ---- keys without what is not read

-- a key of this name with these values and children, and nothing else
abbrev pub plain_key : List ℕ → List Item → List Tree → Tree
plain_key name items keys = key (record { name = name; flags = 0; stamp = 0; class = []; security = []; values = items }) (trees keys)

-- the value has one of these names
abbrev pub is_among : List (List ℕ) → Item → Bool
is_among names v = list_any (λ name. is_item name v) names

-- the name of a key, and its values of these names
abbrev pub with_values : List (List ℕ) → Tree → Tree
with_values names t = plain_key (head t).name (filter (is_among names) (head t).values) []

-- the name of a key, and its children, each changed
abbrev pub with_children : (Tree → Tree) → Tree → Tree
with_children change t = plain_key (head t).name [] (map change (children t))

-- the children of a key alone, each changed
abbrev pub of_children : (Tree → Tree) → Tree → Tree
of_children change t = plain_key [] [] (map change (children t))

-- ---- the values that are read

abbrev pub service_values : List (List ℕ)
service_values = codes "Start" ∷ codes "Type" ∷ []

abbrev pub class_values : List (List ℕ)
class_values = codes "Class" ∷ codes "LowerFilters" ∷ codes "UpperFilters" ∷ []

abbrev pub entry_values : List (List ℕ)
entry_values = codes "Service" ∷ []

abbrev pub own_values : List (List ℕ)
own_values =
    codes "ConfigFlags" ∷ codes "Legacy" ∷ codes "ClassGUID" ∷ codes "Service" ∷ codes "LowerFilters" ∷ codes "UpperFilters"
    ∷ codes "FriendlyName" ∷ codes "DeviceDesc" ∷ []

-- the IDs only where the entry of each device is asked for
abbrev pub device_values : Bool → List (List ℕ)
device_values ids = if ids then codes "HardwareID" ∷ codes "CompatibleIDs" ∷ own_values else own_values

-- the four keys with these values alone; the database only where something of it is asked for
abbrev pub bare_set : Selection → SetKeys → SetKeys
bare_set only keys = record {
  services = option_map (of_children (with_values service_values)) keys.services;
  devices = option_map (of_children (with_children (with_children (with_values (device_values only.ids))))) keys.devices;
  classes = option_map (of_children (with_values class_values)) keys.classes;
  database = if only.ids || only.critical then option_map (of_children (with_values entry_values)) keys.database else None;
}

-- ---- the laws

-- a report is that of the four keys with these values alone
abbrev pub NothingElseIsRead : Type 0
NothingElseIsRead = (number : ℕ) (keys : Option SetKeys) (only : Selection)
    → device_lines number (option_map (bare_set only) keys) only ≡ device_lines number keys only

-- what is told of the set that is asked for, or else of the Default that a start takes
abbrev pub report_of : Option ℕ → Selection → Tree → List DeviceLine
report_of set only tree = device_lines (told_number set tree) (keys_of tree (told_number set tree)) only

-- two trees that have the same number and, in its set, the same four keys with these values have the same report
abbrev pub TreesAreToldAlike : Type 0
TreesAreToldAlike = (set : Option ℕ) (only : Selection) (a b : Tree)
    → told_number set a ≡ told_number set b
    → option_map (bare_set only) (keys_of a (told_number set a)) ≡ option_map (bare_set only) (keys_of b (told_number set b))
    → report_of set only a ≡ report_of set only b
