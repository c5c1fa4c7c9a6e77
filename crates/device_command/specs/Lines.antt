-- What is each line on devices, as data? (this project's own)
use Rattle.std.specs.Prelude.{ℕ, List, [], ◌∷◌, ◌++◌, codes, Option, Some, None}
use Rattle.std.specs.List.{flat_map}
use Rattle.report_text.specs.declared.line_text.form.ReportForm.{ReportForm}
use Rattle.line_parts.specs.Parts as parts
use Rattle.line_parts.specs.Parts.{Line, Part, line, Said, Number, Word, Quoted, Path, WideHex}
use Rattle.device_rule.specs.declared.lines.DeviceState.{DeviceState}
use Rattle.device_rule.specs.declared.lines.DeviceState.TheVariants as devices
use Rattle.device_rule.specs.declared.lines.DriverState.{DriverState}
use Rattle.device_rule.specs.declared.lines.DriverState.TheVariants as drivers
use Rattle.device_rule.specs.declared.lines.Driver.{Driver}
use Rattle.device_rule.specs.declared.lines.Role.{Role}
use Rattle.device_rule.specs.declared.lines.Role.TheVariants as roles
use Rattle.device_rule.specs.declared.lines.DeviceLine.{DeviceLine}
use Rattle.device_rule.specs.declared.lines.DeviceLine.TheVariants as lines
use Rattle.device_rule.specs.Devices.{field_name}

-- ---- words

abbrev pub device_word : DeviceState → List ℕ
device_word devices.Enabled = codes "enabled"
device_word devices.Disabled = codes "disabled"
device_word devices.Legacy = codes "legacy"

abbrev pub role_word : Role → List ℕ
role_word roles.Lower = codes "lower"
role_word roles.ClassLower = codes "class-lower"
role_word roles.Function = codes "function"
role_word roles.Upper = codes "upper"
role_word roles.ClassUpper = codes "class-upper"

abbrev pub state_word : DriverState → List ℕ
state_word drivers.BuiltIn = codes "built-in"
state_word drivers.NoKey = codes "no-key"
state_word drivers.NoStart = codes "no-start"
state_word drivers.Disabled = codes "disabled"
state_word (drivers.Beyond start) = codes "beyond"
state_word drivers.NoType = codes "no-type"
state_word (drivers.Kind kind) = codes "kind"
state_word (drivers.Ready start) = codes "ok"

-- ---- parts

-- the number of a state, where it has one
abbrev pub number_parts : DriverState → List Part
number_parts drivers.BuiltIn = []
number_parts drivers.NoKey = []
number_parts drivers.NoStart = []
number_parts drivers.Disabled = []
number_parts (drivers.Beyond start) = Number (codes "start") start ∷ []
number_parts drivers.NoType = []
number_parts (drivers.Kind kind) = Number (codes "type") kind ∷ []
number_parts (drivers.Ready start) = Number (codes "start") start ∷ []

-- a driver: its name, its state, and the number of that
abbrev pub driver_parts : Driver → List Part
driver_parts driver =
    Quoted (codes "name") driver.name ∷ Word (codes "state") (state_word driver.state) ∷ number_parts driver.state

-- a line that ends with a driver
abbrev pub driver_line : List ℕ → List Part → Driver → Line
driver_line word front driver = line word (front ++ driver_parts driver)

-- what a class is called; an object has no such field where there is none
abbrev pub class_part : Option (List ℕ) → Part
class_part None = Said (codes "none")
class_part (Some class) = Quoted (codes "class") class

-- ---- lines

abbrev pub said_of : DeviceLine → Line
said_of (lines.Set number) = line (codes "set") (Number (codes "number") number ∷ [])
said_of (lines.NoSet number) = line (codes "no-set") (Number (codes "number") number ∷ [])
said_of (lines.Of driver) = driver_line (codes "of") [] driver
said_of lines.NoDatabase = line (codes "no-database") []
said_of lines.NoEnum = line (codes "no-enum") []
said_of (lines.Device state class path) =
    line (codes "device") (Word (codes "state") (device_word state) ∷ class_part class ∷ Path (codes "path") path ∷ [])
said_of (lines.Description text) = line (codes "description") (Quoted (codes "text") text ∷ [])
said_of (lines.Flags flags) = line (codes "flags") (WideHex (codes "flags") flags ∷ [])
said_of (lines.Malformed field) = line (codes "malformed") (Word (codes "field") (field_name field) ∷ [])
said_of (lines.Load role driver) = driver_line (codes "load") (Word (codes "role") (role_word role) ∷ []) driver
said_of lines.NoService = line (codes "no-service") []
said_of (lines.Bound entry driver) = driver_line (codes "bound") (Quoted (codes "entry") entry ∷ []) driver
said_of lines.Unbound = line (codes "unbound") []
said_of (lines.ClassMalformed field class key) =
    line (codes "class-malformed") (Word (codes "field") (field_name field) ∷ Quoted (codes "class") class ∷ Quoted (codes "key") key ∷ [])
said_of (lines.ClassFilter role class key driver) =
    driver_line (codes "class-filter")
    (Word (codes "role") (role_word role) ∷ Quoted (codes "class") class ∷ Quoted (codes "key") key ∷ []) driver
said_of (lines.Critical entry driver) = driver_line (codes "critical") (Quoted (codes "entry") entry ∷ []) driver
said_of (lines.Devices count all) =
    line (codes "devices") (Number (codes "count") count ∷ Said (codes "of") ∷ Number (codes "of") all ∷ [])
said_of (lines.Found count) = line (codes "found") (Number (codes "count") count ∷ [])
said_of lines.End = line (codes "end") []

-- a line in a form
abbrev pub printed : ReportForm → DeviceLine → List ℕ
printed form said = parts.printed form (said_of said)

-- lines in a form
unfoldable pub printed_lines : ReportForm → List DeviceLine → List ℕ
printed_lines form said = flat_map (printed form) said
