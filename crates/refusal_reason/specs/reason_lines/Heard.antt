-- What does a printed line say of a fault? (this project's own)
use Rattle.std.specs.Prelude.{ℕ, List, Option, Some, None, if◌then◌else◌, codes, bytes_eq}
use Rattle.refusal_reason.specs.reason_lines.Texts.{Text, first_word, after_word, number_of}
use Rattle.refusal_reason.specs.reason_lines.Kinds.{Row, reason_in, PartReason, part_reason, script_rows, boot_ini_rows, reg_rows}
use Rattle.refusal_reason.specs.declared.reason_lines.kinds.Part.{Part}

-- the text that has the fault, with its reason and the number of a line or a byte; or that the line is the one of no fault
pub data Heard : Type 0 where
  nothing : Heard
  of_script : Text → ℕ → Heard
  of_boot_ini : Text → Heard
  of_reg : Text → ℕ → Heard
  of_hive : Part → Text → ℕ → Heard
  of_other : Part → Text → ℕ → Heard

-- the fault at a line, where there are both
abbrev pub at_line : (Text → ℕ → Heard) → Option ℕ → Option Text → Heard
at_line make (Some line) (Some reason) = make reason line
at_line make line reason = nothing

-- `LINE KIND` of a text whose faults these are
abbrev pub line_heard : (Text → ℕ → Heard) → List Row → Text → Heard
line_heard make rows text = at_line make (number_of (first_word text)) (reason_in rows (first_word (after_word text)))

-- the fault of boot.ini, where it has a reason
abbrev pub boot_ini_of : Option Text → Heard
boot_ini_of None = nothing
boot_ini_of (Some reason) = of_boot_ini reason

-- the fault at a byte, where there are both
abbrev pub at_byte : (Part → Text → ℕ → Heard) → Option PartReason → Option ℕ → Heard
at_byte make (Some found) (Some at) = make found.part found.reason at
at_byte make found at = nothing

-- `KIND at OFFSET` of a hive
abbrev pub hive_heard : (Part → Text → ℕ → Heard) → Text → Heard
hive_heard make text =
    at_byte make (part_reason (first_word text)) (number_of (first_word (after_word (after_word text))))

-- what a line has after `SUBJECT fault `
abbrev pub fault_heard : Text → Text → Heard
fault_heard subject rest =
    if bytes_eq subject (codes "hive") then hive_heard of_hive rest
    else if bytes_eq subject (codes "with") then hive_heard of_other rest
    else if bytes_eq subject (codes "script") then line_heard of_script script_rows rest
    else if bytes_eq subject (codes "reg") then line_heard of_reg reg_rows rest
    else if bytes_eq subject (codes "boot.ini") then boot_ini_of (reason_in boot_ini_rows (first_word rest))
    else nothing

-- what a printed line says of a fault: `SUBJECT fault ..`
abbrev pub heard_of : Text → Heard
heard_of line =
    if bytes_eq (first_word (after_word line)) (codes "fault") then fault_heard (first_word line) (after_word (after_word line))
    else nothing
