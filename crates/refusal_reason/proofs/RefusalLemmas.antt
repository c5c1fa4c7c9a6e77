-- Each refusal for a fault says it.
use Rattle.std.proofs.Common.{◌≡◌, ◌<◌, ◌^◌, true, Option, Some, None, is_some, refl}
use Rattle.std.proofs.lemmas.Bool.{false≢true}
use Rattle.nt_bytes.specs.declared.fault.HiveFault.{HiveFault}
use Rattle.nt_bytes.specs.declared.fault.HiveFaultKind.{HiveFaultKind}
use Rattle.nt_bytes.specs.declared.fault.HiveFaultKind.TheVariants as hive
use Rattle.boot_script.specs.declared.boot_script.stop.ScriptFault.{ScriptFault}
use Rattle.boot_script.specs.declared.boot_script.stop.ScriptFaultKind.{ScriptFaultKind}
use Rattle.boot_script.specs.declared.boot_script.stop.ScriptFaultKind.TheVariants as script
use Rattle.command_parts.specs.command_parts.Kinds.{script_kind_word, hive_kind_word}
use Rattle.command_parts.specs.command_parts.Refusals.{refusal_text}
use Rattle.command_parts.specs.declared.command_parts.refusal.Refusal.TheVariants as refusals
use Rattle.refusal_reason.specs.reason_lines.Kinds.{part_reason, reason_in, script_rows}
use Rattle.refusal_reason.proofs.PrintedLemmas.{script-heard, hive-heard}
use Rattle.refusal_reason.specs.refusal_reason.Laws.{SaysScript, SaysHive}

script-known : (kind : ScriptFaultKind) → is_some (reason_in script_rows (script_kind_word kind)) ≡ true
script-known script.TooLong = refl
script-known script.Line = refl
script-known script.Word = refl
script-known script.Number = refl
script-known script.TooManyStarts = refl

pub hive-known : (kind : HiveFaultKind) → is_some (part_reason (hive_kind_word kind)) ≡ true
hive-known hive.NotRegf = refl
hive-known hive.Checksum = refl
hive-known hive.Version = refl
hive-known hive.FileType = refl
hive-known hive.Size = refl
hive-known hive.BinSign = refl
hive-known hive.BinOffset = refl
hive-known hive.BinSize = refl
hive-known hive.CellSize = refl
hive-known hive.CellPastBin = refl
hive-known hive.OutOfRange = refl
hive-known hive.FreeCell = refl
hive-known hive.Shared = refl
hive-known hive.FormShort = refl
hive-known hive.FormSign = refl
hive-known hive.FormLength = refl
hive-known hive.FormName = refl
hive-known hive.FormKind = refl
hive-known hive.DoubleName = refl
hive-known hive.Count = refl
hive-known hive.TooDeep = refl
hive-known hive.LogAbsent = refl
hive-known hive.LogBase = refl
hive-known hive.LogSequence = refl
hive-known hive.LogDirt = refl
hive-known hive.LogShort = refl
hive-known hive.Unreadable = refl
hive-known hive.LogUnreadable = refl

-- what is there
pub here : {A : Type 0} → (o : Option A) → is_some o ≡ true → (x : A) × (o ≡ Some x)
here None e = absurd (false≢true e)
here (Some x) e = (x, refl)

pub script-said : (fault : ScriptFault) → fault.line < 2 ^ 32
    → SaysScript (refusal_text (refusals.ScriptFault fault)) fault
script-said fault small =
    let known = here (reason_in script_rows (script_kind_word fault.kind)) (script-known fault.kind) in record {
      reason = known.0;
      known = known.1;
      heard = script-heard (script_kind_word fault.kind) known.0 fault.line small known.1;
    }

pub hive-said : (fault : HiveFault) → fault.at < 2 ^ 32 → SaysHive (refusal_text (refusals.HiveFault fault)) fault
hive-said fault small =
    let known = here (part_reason (hive_kind_word fault.kind)) (hive-known fault.kind) in record {
      found = known.0;
      known = known.1;
      heard = hive-heard (hive_kind_word fault.kind) fault.at known.0 small known.1;
    }
