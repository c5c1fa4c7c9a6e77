-- Which devices does a control set know, and what is reported of each?
--
-- The layout of `Enum`, the load order of the five values, bit 0 of ConfigFlags: Windows Internals, 4th edition, device enumeration and driver
-- loading. That a legacy device has no findings, and which values are called malformed: this project's own.
use Rattle.std.specs.Prelude.{ℕ, Bool, true, false, not, ◌&&◌, ◌||◌, ◌==◌, bit_and, if◌then◌else◌, List, [], ◌∷◌, ◌++◌, map, filter, find, length, count_by, codes, Option, Some, None, option_and_then, unwrap_or}
use Rattle.std.specs.List.{flat_map, list_any}
use Rattle.std.specs.Option.{option_map_or}
use Rattle.nt_bytes.specs.Folding.{folds_same}
use Rattle.hive_model.specs.Tree.{Tree, Item, head, children, is_named, find_item}
use Rattle.device_rule.specs.declared.lines.DeviceState.{DeviceState}
use Rattle.device_rule.specs.declared.lines.DeviceState.TheVariants as states
use Rattle.device_rule.specs.declared.lines.Role.{Role}
use Rattle.device_rule.specs.declared.lines.Role.TheVariants.{Lower, ClassLower, Function, Upper, ClassUpper}
use Rattle.device_rule.specs.declared.lines.Field.{Field}
use Rattle.device_rule.specs.declared.lines.Field.TheVariants as fields
use Rattle.device_rule.specs.declared.lines.DeviceLine.{DeviceLine}
use Rattle.device_rule.specs.declared.lines.DeviceLine.TheVariants as lines
use Rattle.device_rule.specs.declared.device.Device.{Device}
use Rattle.device_rule.specs.declared.scope.Scope.{Scope}
use Rattle.device_rule.specs.declared.block.Block.{Block}
use Rattle.device_rule.specs.Values.{text_of, either, names_of, number_of, children_of}
use Rattle.device_rule.specs.Drivers.{driver_of, is_prevented}
use Rattle.device_rule.specs.Database.{match_lines}

-- a line where it is found
abbrev pub line_when : Bool → DeviceLine → List DeviceLine
line_when found line = if found then line ∷ [] else []

-- ---- the devices

-- an instance of a device
abbrev pub device_at : List ℕ → List ℕ → Tree → Device
device_at enumerator device t = record { path = enumerator ∷ device ∷ (head t).name ∷ []; key = t }

abbrev pub below_device : List ℕ → Tree → List Device
below_device enumerator t = map (device_at enumerator (head t).name) (children t)

abbrev pub below_enumerator : Tree → List Device
below_enumerator t = flat_map (below_device (head t).name) (children t)

-- the keys three levels below `Enum`, in the order of the registry
abbrev pub devices_of : Option Tree → List Device
devices_of key = flat_map below_enumerator (children_of key)

-- ---- the state of a device

abbrev pub device_state : Tree → DeviceState
device_state t =
    if bit_and (number_of (codes "ConfigFlags") t) 1 == 1 then states.Disabled
    else (if not (number_of (codes "Legacy") t == 0) then states.Legacy
    else states.Enabled)

abbrev pub is_enabled : DeviceState → Bool
is_enabled states.Enabled = true
is_enabled states.Disabled = false
is_enabled states.Legacy = false

-- ---- its class

-- the key of the class that a text names
abbrev pub class_of : List Tree → Option (List ℕ) → Option Tree
class_of classes guid = option_and_then (λ name. find (is_named name) classes) guid

abbrev pub class_label : List ℕ → Option Tree → List ℕ
class_label guid None = guid
class_label guid (Some t) = unwrap_or (text_of (codes "Class") t) guid

-- what the class is called
abbrev pub class_name : Option (List ℕ) → Option Tree → Option (List ℕ)
class_name None class = None
class_name (Some guid) class = Some (class_label guid class)

-- ---- what is reported of its values

-- what it is called
abbrev pub called : Tree → Option (List ℕ)
called t = either (text_of (codes "FriendlyName") t) (text_of (codes "DeviceDesc") t)

abbrev pub text_lines : Option (List ℕ) → List DeviceLine
text_lines None = []
text_lines (Some text) = lines.Description text ∷ []

abbrev pub flags_lines : ℕ → List DeviceLine
flags_lines flags = if flags == 0 then [] else lines.Flags flags ∷ []

abbrev pub field_name : Field → List ℕ
field_name fields.Service = codes "Service"
field_name fields.ClassGuid = codes "ClassGUID"
field_name fields.ConfigFlags = codes "ConfigFlags"
field_name fields.LowerFilters = codes "LowerFilters"
field_name fields.UpperFilters = codes "UpperFilters"

abbrev pub filter_fields : List Field
filter_fields = fields.LowerFilters ∷ fields.UpperFilters ∷ []

abbrev pub all_fields : List Field
all_fields = fields.Service ∷ fields.ClassGuid ∷ fields.ConfigFlags ∷ fields.LowerFilters ∷ fields.UpperFilters ∷ []

-- not a string: type 1 or 2
abbrev pub is_no_string : Item → Bool
is_no_string v = not ((v.kind == 1) || (v.kind == 2))

-- not a DWORD: type 4 with four bytes
abbrev pub is_no_dword : Item → Bool
is_no_dword v = not ((v.kind == 4) && (length v.bytes == 4))

-- not a list of strings: type 7
abbrev pub is_no_list : Item → Bool
is_no_list v = not (v.kind == 7)

-- the value isn't of the form that is read
abbrev pub is_malformed : Field → Item → Bool
is_malformed fields.Service v = is_no_string v
is_malformed fields.ClassGuid v = is_no_string v
is_malformed fields.ConfigFlags v = is_no_dword v
is_malformed fields.LowerFilters v = is_no_list v
is_malformed fields.UpperFilters v = is_no_list v

-- the key has the value, and it isn't of that form
abbrev pub has_malformed : Tree → Field → Bool
has_malformed t field = option_map_or (is_malformed field) (find_item (field_name field) t) false

abbrev pub malformed_lines : Tree → List DeviceLine
malformed_lines t = map lines.Malformed (filter (has_malformed t) all_fields)

abbrev pub about_lines : Tree → List DeviceLine
about_lines t = text_lines (called t) ++ flags_lines (number_of (codes "ConfigFlags") t) ++ malformed_lines t

-- ---- its stack

abbrev pub load : List Tree → Role → List ℕ → DeviceLine
load services role name = lines.Load role (driver_of services name)

abbrev pub loads : List Tree → Role → List (List ℕ) → List DeviceLine
loads services role names = map (load services role) names

-- the function driver
abbrev pub function_lines : List Tree → Option (List ℕ) → List DeviceLine
function_lines services None = lines.NoService ∷ []
function_lines services (Some name) = load services Function name ∷ []

-- the names of a class's value, where there is a class key
abbrev pub class_names : List ℕ → Option Tree → List (List ℕ)
class_names value class = option_map_or (names_of value) class []

-- the drivers that are loaded for a device of this class, in load order
abbrev pub stack_lines : List Tree → Option Tree → Tree → List DeviceLine
stack_lines services class t =
    loads services Lower (names_of (codes "LowerFilters") t)
    ++ loads services ClassLower (class_names (codes "LowerFilters") class)
    ++ function_lines services (text_of (codes "Service") t)
    ++ loads services Upper (names_of (codes "UpperFilters") t)
    ++ loads services ClassUpper (class_names (codes "UpperFilters") class)

-- ---- the block of a device

abbrev pub block_lines : Bool → Scope → Device → Option (List ℕ) → Option Tree → List DeviceLine
block_lines ids scope d guid class =
    lines.Device (device_state d.key) (class_name guid class) d.path
    ∷ about_lines d.key ++ stack_lines scope.services class d.key ++ match_lines ids scope d.key

abbrev pub block_with : Bool → Scope → Device → Option (List ℕ) → Option Tree → Block
block_with ids scope d guid class = record {
  enabled = is_enabled (device_state d.key);
  lines = block_lines ids scope d guid class;
}

-- what is reported of a device, with its entry of the database where that is asked for
abbrev pub block_of : Bool → Scope → Device → Block
block_of ids scope d =
    let guid : Option (List ℕ) = text_of (codes "ClassGUID") d.key in block_with ids scope d guid (class_of scope.classes guid)

-- ---- findings

-- in the block of an enabled device: a finding
unfoldable pub is_fault : DeviceLine → Bool
is_fault (lines.Set number) = false
is_fault (lines.NoSet number) = false
is_fault (lines.Of driver) = false
is_fault lines.NoDatabase = false
is_fault lines.NoEnum = false
is_fault (lines.Device state class path) = false
is_fault (lines.Description text) = false
is_fault (lines.Flags flags) = false
is_fault (lines.Malformed field) = true
is_fault (lines.Load role driver) = is_prevented driver.state
is_fault lines.NoService = false
is_fault (lines.Bound entry driver) = false
is_fault lines.Unbound = false
is_fault (lines.ClassMalformed field class key) = false
is_fault (lines.ClassFilter role class key driver) = false
is_fault (lines.Critical entry driver) = false
is_fault (lines.Devices count of) = false
is_fault (lines.Found count) = false
is_fault lines.End = false

-- how many findings a block has
abbrev pub block_findings : Block → ℕ
block_findings b = if b.enabled then count_by is_fault b.lines else 0

-- the line loads the driver of this name
abbrev pub is_load_of : List ℕ → DeviceLine → Bool
is_load_of name (lines.Set number) = false
is_load_of name (lines.NoSet number) = false
is_load_of name (lines.Of driver) = false
is_load_of name lines.NoDatabase = false
is_load_of name lines.NoEnum = false
is_load_of name (lines.Device state class path) = false
is_load_of name (lines.Description text) = false
is_load_of name (lines.Flags flags) = false
is_load_of name (lines.Malformed field) = false
is_load_of name (lines.Load role driver) = folds_same name driver.name
is_load_of name lines.NoService = false
is_load_of name (lines.Bound entry driver) = false
is_load_of name lines.Unbound = false
is_load_of name (lines.ClassMalformed field class key) = false
is_load_of name (lines.ClassFilter role class key driver) = false
is_load_of name (lines.Critical entry driver) = false
is_load_of name (lines.Devices count of) = false
is_load_of name (lines.Found count) = false
is_load_of name lines.End = false

-- the stack of a block has this name, where one is asked for
abbrev pub has_asked : Option (List ℕ) → List DeviceLine → Bool
has_asked None said = true
has_asked (Some name) said = list_any (is_load_of name) said
