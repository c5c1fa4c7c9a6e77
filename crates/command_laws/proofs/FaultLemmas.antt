-- The reason of a fault that one command prints.
use Rattle.std.proofs.Common.{◌≡◌, ◌<◌, ◌^◌, true, List, is_some, ap, refl}
use Rattle.std.specs.Prelude.{codes}
use Rattle.nt_bytes.specs.declared.fault.HiveFault.{HiveFault}
use Rattle.nt_edge.specs.Host.{Files}
use Rattle.reg_text.specs.declared.stop.RegFault.{RegFault}
use Rattle.reg_text.specs.declared.stop.RegFaultKind.{RegFaultKind}
use Rattle.reg_text.specs.declared.stop.RegFaultKind.TheVariants as kinds
use Rattle.command_parts.specs.command_parts.Kinds.{hive_kind_word}
use Rattle.text_commands.specs.Exported.{fault_text, kind_word}
use Rattle.refusal_reason.specs.reason_lines.Texts.{Text}
use Rattle.refusal_reason.specs.reason_lines.Heard.{Heard}
use Rattle.refusal_reason.specs.reason_lines.Kinds.{part_reason, reason_in, reg_rows}
use Rattle.refusal_reason.specs.reason_lines.Lines.{heard_line}
use Rattle.refusal_reason.proofs.PrintedLemmas.{other-heard, reg-heard}
use Rattle.refusal_reason.specs.refusal_reason.Reasons.{is_dirty_at}
use Rattle.refusal_reason.proofs.RefusalLemmas.{here, hive-known}
use Rattle.command_laws.specs.reason_laws.Faults.{ExplainsOther, ExplainsReg}

reg-known : (kind : RegFaultKind) → is_some (reason_in reg_rows (kind_word kind)) ≡ true
reg-known kinds.Mark = refl
reg-known kinds.Header = refl
reg-known kinds.Root = refl
reg-known kinds.Line = refl
reg-known kinds.NotText = refl

-- the line for what is heard
abbrev line-for : List Text → Files → Heard → Text
line-for words files heard = heard_line words heard (is_dirty_at words files (codes "--hive")) (is_dirty_at words files (codes "--with"))

pub reg-explained : (words : List Text) (files : Files) (fault : RegFault) → fault.line < 2 ^ 32 → ExplainsReg words files fault
unfolding fault_text
reg-explained words files fault small =
    let known = here (reason_in reg_rows (kind_word fault.kind)) (reg-known fault.kind) in record {
      reason = known.0;
      known = known.1;
      line = ap (line-for words files) (reg-heard (kind_word fault.kind) known.0 fault.line small known.1);
    }

pub other-explained : (words : List Text) (files : Files) (fault : HiveFault) → fault.at < 2 ^ 32 → ExplainsOther words files fault
other-explained words files fault small =
    let known = here (part_reason (hive_kind_word fault.kind)) (hive-known fault.kind) in record {
      found = known.0;
      known = known.1;
      line = ap (line-for words files) (other-heard (hive_kind_word fault.kind) fault.at known.0 small known.1);
    }
