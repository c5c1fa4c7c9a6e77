-- What do the lines amount to? (this project's own)
use Rattle.std.specs.Prelude.{◌≡◌, Bool, true, false, List, Some, take, codes}
use Rattle.nt_bytes.specs.declared.fault.HiveFault.{HiveFault}
use Rattle.nt_edge.specs.Host.{Files}
use Rattle.boot_script.specs.declared.boot_script.stop.ScriptFault.{ScriptFault}
use Rattle.command_words.specs.Reading.{reading_of}
use Rattle.command_parts.specs.command_parts.Kinds.{script_kind_word, hive_kind_word}
use Rattle.command_parts.specs.declared.command_parts.status.Status.{Status}
use Rattle.command_parts.specs.declared.command_parts.status.Status.TheVariants as statuses
use Rattle.refusal_reason.specs.reason_lines.Texts.{Text}
use Rattle.refusal_reason.specs.reason_lines.Files.{file_at, missing_in}
use Rattle.refusal_reason.specs.reason_lines.Heard.{heard_of, of_script, of_hive}
use Rattle.refusal_reason.specs.reason_lines.Kinds.{PartReason, part_reason, reason_in, script_rows}
use Rattle.refusal_reason.specs.reason_lines.Lines.{absent_line, heard_line}
use Rattle.refusal_reason.specs.refusal_reason.Reasons.{is_dirty_at, usage_line}

-- the line for the fault that was printed, by the command line, by what was printed and by the files
abbrev pub fault_line_of : List Text → Text → Files → Text
fault_line_of words said files =
    heard_line words (heard_of (take 128 said)) (is_dirty_at words files (codes "--hive")) (is_dirty_at words files (codes "--with"))

-- the line for a file that is absent, by the command line and by what was printed
abbrev pub absent_line_of : List Text → Text → Text
absent_line_of words said = absent_line words (file_at words (missing_in words said))

-- the status is that of a refusal for what is in files or which of them are there
abbrev pub is_fault : Status → Bool
is_fault statuses.NoFile = true
is_fault statuses.ScriptFault = true
is_fault statuses.BootIniFault = true
is_fault statuses.HiveFault = true
is_fault statuses.RegFault = true
is_fault status = false

-- the status is that of a refusal: of the command line, or for files
abbrev pub is_refusal : Status → Bool
is_refusal statuses.Usage = true
is_refusal status = is_fault status

-- the line on a refusal, by the command line, by what was printed and by the files
abbrev pub refusal_line : List Text → Status → Text → Files → Text
refusal_line words statuses.Usage said files = usage_line (reading_of words)
refusal_line words statuses.NoFile said files = absent_line_of words said
refusal_line words status said files = fault_line_of words said files

-- the script's fault is what the text says, with the reason of its word
pub record SaysScript (text : Text) (fault : ScriptFault) : Type 0 where
  pub reason : Text
  pub known : reason_in script_rows (script_kind_word fault.kind) ≡ Some reason
  pub heard : heard_of (take 128 text) ≡ of_script reason fault.line

-- the hive's fault is what the text says, with the part and the reason of its word
pub record SaysHive (text : Text) (fault : HiveFault) : Type 0 where
  pub found : PartReason
  pub known : part_reason (hive_kind_word fault.kind) ≡ Some found
  pub heard : heard_of (take 128 text) ≡ of_hive found.part found.reason fault.at
