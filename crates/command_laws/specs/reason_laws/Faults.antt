-- Which reason does a fault have that one command prints? (this project's own)
use Rattle.std.specs.Prelude.{◌≡◌, List, Some, codes}
use Rattle.nt_bytes.specs.declared.fault.HiveFault.{HiveFault}
use Rattle.nt_edge.specs.Host.{Files}
use Rattle.reg_text.specs.declared.stop.RegFault.{RegFault}
use Rattle.command_parts.specs.command_parts.Kinds.{hive_kind_word}
use Rattle.command_parts.specs.declared.command_parts.status.Status.TheVariants as statuses
use Rattle.text_commands.specs.Exported.{fault_text, kind_word}
use Rattle.set_commands.specs.diff_command.Answer.{with_text}
use Rattle.refusal_reason.specs.reason_lines.Texts.{Text}
use Rattle.refusal_reason.specs.reason_lines.Kinds.{PartReason, part_reason, reason_in, reg_rows}
use Rattle.refusal_reason.specs.reason_lines.Lines.{hive_line, name_of, other_of, text_line}
use Rattle.refusal_reason.specs.refusal_reason.Laws.{refusal_line}
use Rattle.refusal_reason.specs.refusal_reason.Reasons.{is_dirty_at}

-- the line on the fault of a registry text has the reason of its word
pub record ExplainsReg (words : List Text) (files : Files) (fault : RegFault) : Type 0 where
  pub reason : Text
  pub known : reason_in reg_rows (kind_word fault.kind) ≡ Some reason
  pub line : refusal_line words statuses.RegFault (fault_text fault) files ≡ text_line (name_of words (codes "--reg")) fault.line reason

-- the line on the fault of the second hive has the part and the reason of its word
pub record ExplainsOther (words : List Text) (files : Files) (fault : HiveFault) : Type 0 where
  pub found : PartReason
  pub known : part_reason (hive_kind_word fault.kind) ≡ Some found
  pub line : refusal_line words statuses.HiveFault (with_text fault) files
      ≡ hive_line (other_of words (is_dirty_at words files (codes "--with"))) found.part fault.at found.reason
