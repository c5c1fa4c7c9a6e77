-- What does CriticalDeviceDatabase say of a device, and of any hardware?
--
-- The database, and that an ID stands in it with `#` for each backslash: Windows Internals, 4th edition, driver installation. That an entry
-- without a driver is passed over is this project's own.
use Rattle.std.specs.Prelude.{ℕ, Bool, true, not, ◌||◌, ◌==◌, if◌then◌else◌, List, [], ◌∷◌, ◌++◌, map, find, length, codes, Option, Some, None}
use Rattle.std.specs.List.{flat_map}
use Rattle.nt_bytes.specs.Folding.{folds_same}
use Rattle.nt_bytes.specs.Text.{is_backslash}
use Rattle.hive_model.specs.Tree.{Tree, head, is_named}
use Rattle.device_rule.specs.declared.lines.Driver.{Driver}
use Rattle.device_rule.specs.declared.lines.DeviceLine.{DeviceLine}
use Rattle.device_rule.specs.declared.lines.DeviceLine.TheVariants as lines
use Rattle.device_rule.specs.declared.scope.Scope.{Scope}
use Rattle.device_rule.specs.Values.{text_of, names_of}
use Rattle.device_rule.specs.Drivers.{driver_of, is_boot}

-- ---- the entry of a device

abbrev pub hashed_unit : ℕ → ℕ
hashed_unit unit = if is_backslash unit then 35 else unit

-- the name of an ID's entry
abbrev pub hashed : List ℕ → List ℕ
hashed id = map hashed_unit id

-- the entry of this name, where it has a driver
abbrev pub bound_lines : List Tree → List ℕ → Option (List ℕ) → List DeviceLine
bound_lines services entry None = []
bound_lines services entry (Some service) = lines.Bound entry (driver_of services service) ∷ []

abbrev pub entry_lines : List Tree → Option Tree → List DeviceLine
entry_lines services None = []
entry_lines services (Some t) = bound_lines services (head t).name (text_of (codes "Service") t)

-- the entry of an ID
abbrev pub id_lines : Scope → List ℕ → List DeviceLine
id_lines scope id = entry_lines scope.services (find (is_named (hashed id)) scope.database)

-- the entry of the first ID that has one with a driver
abbrev pub first_lines : Scope → List (List ℕ) → List DeviceLine
first_lines scope [] = lines.Unbound ∷ []
first_lines scope (id ∷ ids) = if length (id_lines scope id) == 0 then first_lines scope ids else id_lines scope id

-- the IDs of a device, the most special first
abbrev pub ids_of : Tree → List (List ℕ)
ids_of t = names_of (codes "HardwareID") t ++ names_of (codes "CompatibleIDs") t

-- the device's entry, where that is asked for
abbrev pub match_lines : Bool → Scope → Tree → List DeviceLine
match_lines ids scope t = if ids then first_lines scope (ids_of t) else []

-- ---- any hardware

-- the driver is the one that is asked for, or none is
abbrev pub is_asked : Option (List ℕ) → Driver → Bool
is_asked None driver = true
is_asked (Some name) driver = folds_same name driver.name

-- an entry whose driver isn't loaded with the kernel
abbrev pub driver_lines : Option (List ℕ) → List ℕ → Driver → List DeviceLine
driver_lines of entry driver = if is_boot driver.state || not (is_asked of driver) then [] else lines.Critical entry driver ∷ []

abbrev pub service_lines : List Tree → Option (List ℕ) → List ℕ → Option (List ℕ) → List DeviceLine
service_lines services of entry None = []
service_lines services of entry (Some service) = driver_lines of entry (driver_of services service)

abbrev pub critical_line : List Tree → Option (List ℕ) → Tree → List DeviceLine
critical_line services of t = service_lines services of (head t).name (text_of (codes "Service") t)

-- the entries of the database, where they are asked for
abbrev pub critical_lines : Bool → Scope → Option (List ℕ) → List DeviceLine
critical_lines critical scope of = if critical then flat_map (critical_line scope.services of) scope.database else []
