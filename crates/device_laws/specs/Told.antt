-- What does a reader of a report on devices see? (this project's own)
--
-- The block of a device is its line `device` and the lines on it that follow.
use Rattle.std.specs.Prelude.{ℕ, ◌+◌, Bool, true, false, if◌then◌else◌, List, [], ◌∷◌, count_by, sum_by}
use Rattle.device_rule.specs.declared.lines.DeviceLine.{DeviceLine}
use Rattle.device_rule.specs.declared.lines.DeviceLine.TheVariants as lines
use Rattle.device_rule.specs.Devices.{is_enabled, is_fault}

-- ---- blocks

-- the line begins a block
abbrev pub is_device : DeviceLine → Bool
is_device (lines.Device state class path) = true
is_device line = false

-- the line goes on with a block
abbrev pub is_about : DeviceLine → Bool
is_about (lines.Description text) = true
is_about (lines.Flags flags) = true
is_about (lines.Malformed field) = true
is_about (lines.Load role driver) = true
is_about lines.NoService = true
is_about (lines.Bound entry driver) = true
is_about lines.Unbound = true
is_about line = false

-- the lines that go on with a block begun before, and the blocks
pub record Read : Type 0 where
  pub rest : List DeviceLine
  pub blocks : List (List DeviceLine)

abbrev pub with_line : DeviceLine → Read → Read
with_line line read =
    if is_about line then record { rest = line ∷ read.rest; blocks = read.blocks }
    else record { rest = []; blocks = if is_device line then (line ∷ read.rest) ∷ read.blocks else read.blocks }

abbrev pub read_of : List DeviceLine → Read
read_of [] = record { rest = []; blocks = [] }
read_of (line ∷ lines) = with_line line (read_of lines)

-- the blocks of a report
abbrev pub blocks_told : List DeviceLine → List (List DeviceLine)
blocks_told report = (read_of report).blocks

-- the path of the device that a block is on
abbrev pub path_told : List DeviceLine → List (List ℕ)
path_told (lines.Device state class path ∷ rest) = path
path_told block = []

-- ---- findings

-- the line is a finding wherever it is
abbrev pub is_finding : DeviceLine → Bool
is_finding (lines.NoSet number) = true
is_finding lines.NoEnum = true
is_finding (lines.ClassMalformed field class key) = true
is_finding (lines.ClassFilter role class key driver) = true
is_finding line = false

-- the block is on an enabled device
abbrev pub is_on_enabled : List DeviceLine → Bool
is_on_enabled (lines.Device state class path ∷ rest) = is_enabled state
is_on_enabled block = false

-- how many findings a block tells
abbrev pub block_findings_told : List DeviceLine → ℕ
block_findings_told block = if is_on_enabled block then count_by is_fault block else 0

-- how many findings a report tells
abbrev pub findings_told : List DeviceLine → ℕ
findings_told report = count_by is_finding report + sum_by block_findings_told (blocks_told report)
