-- In which state is the driver of a name?
--
-- Start and Type: Microsoft's documentation of service entries. The object names of the drivers that the HAL or the kernel makes begin with
-- `\Driver\`: seen in hives of Windows 7 and 8.1. The order of the states is this project's own.
use Rattle.std.specs.Prelude.{ℕ, Bool, true, false, ◌&&◌, ◌==◌, nat_lt, if◌then◌else◌, List, [], ◌∷◌, find, codes, Option, Some, None}
use Rattle.std.specs.Option.{option_map_or}
use Rattle.nt_bytes.specs.Folding.{folded_unit}
use Rattle.hive_model.specs.Tree.{Tree, head, is_named, find_dword}
use Rattle.start_model.specs.Entries.{is_driver}
use Rattle.device_rule.specs.declared.lines.DriverState.{DriverState}
use Rattle.device_rule.specs.declared.lines.DriverState.TheVariants as states
use Rattle.device_rule.specs.declared.lines.Driver.{Driver}

-- the name begins with the front, letters of either case taken for one
abbrev pub begins_folded : List ℕ → List ℕ → Bool
begins_folded [] name = true
begins_folded (x ∷ xs) [] = false
begins_folded (x ∷ xs) (y ∷ ys) = (folded_unit x == folded_unit y) && begins_folded xs ys

-- the object name of a driver that the HAL or the kernel makes
abbrev pub is_built_in : List ℕ → Bool
is_built_in name = begins_folded (codes "\\Driver\\") name

-- by its Type, where its Start is at most 3
abbrev pub kind_state : ℕ → Option ℕ → DriverState
kind_state start None = states.NoType
kind_state start (Some kind) = if is_driver kind then states.Ready start else states.Kind kind

-- by its Start and Type
abbrev pub start_state : Option ℕ → Option ℕ → DriverState
start_state None kind = states.NoStart
start_state (Some start) kind =
    if start == 4 then states.Disabled
    else (if nat_lt 4 start then states.Beyond start
    else kind_state start kind)

-- by its key
abbrev pub key_state : Tree → DriverState
key_state t = start_state (find_dword (codes "Start") t) (find_dword (codes "Type") t)

-- by its name, among the children of `Services`
abbrev pub state_of : List Tree → List ℕ → DriverState
state_of services name =
    if is_built_in name then states.BuiltIn else option_map_or key_state (find (is_named name) services) states.NoKey

abbrev pub driver_of : List Tree → List ℕ → Driver
driver_of services name = record { name = name; state = state_of services name }

-- the name as the key has it, else as it was given
abbrev pub key_name : List Tree → List ℕ → List ℕ
key_name services name = option_map_or (λ t. (head t).name) (find (is_named name) services) name

-- the driver that was asked for
abbrev pub asked_driver : List Tree → List ℕ → Driver
asked_driver services name = record { name = key_name services name; state = state_of services name }

-- Plug and Play can't load it
abbrev pub is_prevented : DriverState → Bool
is_prevented states.BuiltIn = false
is_prevented states.NoKey = true
is_prevented states.NoStart = true
is_prevented states.Disabled = true
is_prevented (states.Beyond start) = true
is_prevented states.NoType = true
is_prevented (states.Kind kind) = true
is_prevented (states.Ready start) = false

-- it is loaded with the kernel
abbrev pub is_boot : DriverState → Bool
is_boot states.BuiltIn = false
is_boot states.NoKey = false
is_boot states.NoStart = false
is_boot states.Disabled = false
is_boot (states.Beyond start) = false
is_boot states.NoType = false
is_boot (states.Kind kind) = false
is_boot (states.Ready start) = start == 0
