-- Which blocks does a report have? (this project's own)
use Rattle.std.specs.Prelude.{◌≡◌, ℕ, Bool, true, false, not, ◌&&◌, ◌||◌, ◌==◌, List, map, filter, Option, Some, None}
use Rattle.device_rule.specs.declared.lines.DeviceLine.{DeviceLine}
use Rattle.device_rule.specs.declared.lines.DeviceLine.TheVariants as lines
use Rattle.device_rule.specs.declared.device.Device.{Device}
use Rattle.device_rule.specs.declared.scope.SetKeys.{SetKeys}
use Rattle.device_rule.specs.declared.scope.Selection.{Selection}
use Rattle.device_rule.specs.Devices.{devices_of, has_asked}
use Rattle.device_rule.specs.Report.{device_lines}
use Rattle.device_laws.specs.Told.{blocks_told, path_told, block_findings_told}

-- ---- all of them

-- the same question about all devices
abbrev pub of_all : Selection → Selection
of_all only = record only { of = None; findings = false }

-- there is one block for each device, in the order of the registry
abbrev pub OneBlockEach : Type 0
OneBlockEach =
    (number : ℕ) (keys : SetKeys) (only : Selection)
    → map path_told (blocks_told (device_lines number (Some keys) (of_all only))) ≡ map (λ (d : Device). d.path) (devices_of keys.devices)

-- ---- some of them

-- the block loads the driver that is asked for, and has a finding where one is asked for
abbrev pub is_wanted : Selection → List DeviceLine → Bool
is_wanted only block = has_asked only.of block && (not only.findings || not (block_findings_told block == 0))

-- those that are told are those of all devices that are wanted, each whole
abbrev pub WholeBlocksStay : Type 0
WholeBlocksStay =
    (number : ℕ) (keys : SetKeys) (only : Selection)
    → blocks_told (device_lines number (Some keys) only)
    ≡ filter (is_wanted only) (blocks_told (device_lines number (Some keys) (of_all only)))

-- ---- with the database

-- the same question without the database
abbrev pub without_database : Selection → Selection
without_database only = record only { ids = false; critical = false }

-- the line doesn't tell of the database
abbrev pub is_plain : DeviceLine → Bool
is_plain lines.NoDatabase = false
is_plain (lines.Bound entry driver) = false
is_plain lines.Unbound = false
is_plain (lines.Critical entry driver) = false
is_plain line = true

-- what is asked of the database only adds lines
abbrev pub DatabaseOnlyAdds : Type 0
DatabaseOnlyAdds =
    (number : ℕ) (keys : Option SetKeys) (only : Selection)
    → device_lines number keys (without_database only) ≡ filter is_plain (device_lines number keys only)
