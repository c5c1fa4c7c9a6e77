-- Which boot.ini asks for the mode that a command line names? (this project's own)
use Rattle.std.specs.Prelude.{◌≡◌, ◌↔◌, ℕ, zero, suc, ◌-◌, Bool, List, [], ◌∷◌, Some, None, Ok, codes, if◌then◌else◌}
use Rattle.std.specs.Option.{is_some}
use Rattle.hive_model.specs.Tree.{Tree}
use Rattle.boot_ini.specs.declared.arc_path.arc.Arc.{Arc}
use Rattle.boot_ini.specs.declared.boot_ini.ini.OsEntry.{OsEntry}
use Rattle.boot_ini.specs.declared.boot_ini.ini.BootIni.{BootIni}
use Rattle.report_text.specs.declared.line_text.form.ReportForm.{ReportForm}
use Rattle.safe_boot.specs.declared.mode.SafeMode.{SafeMode}
use Rattle.safe_boot.specs.declared.mode.SafeMode.TheVariants.{Minimal, Network}
use Rattle.safe_boot.specs.Modes.{mode_of, mode_asked}
use Rattle.command_parts.specs.declared.command_parts.status.Status.{Status}
use Rattle.safe_command.specs.declared.inputs.SafeInputs.{SafeInputs}
use Rattle.safe_command.specs.Report.{report_of}
use Rattle.command_parts.specs.command_parts.OnHive.{EndsOnHive}
use Rattle.safe_command.specs.Answer.{question_on}

-- a switch that asks for the mode
abbrev pub switch_of : SafeMode → List ℕ
switch_of Minimal = codes "/SAFEBOOT:MINIMAL"
switch_of Network = codes "/SAFEBOOT:NETWORK"

-- the switches with this one in place of the first that asks for a mode; where none does, with it after them
abbrev pub switches_for : SafeMode → List (List ℕ) → List (List ℕ)
switches_for mode [] = switch_of mode ∷ []
switches_for mode (switch ∷ switches) =
    if is_some (mode_of switch) then switch_of mode ∷ switches else switch ∷ switches_for mode switches

-- the entry with such switches
abbrev pub entry_for : SafeMode → OsEntry → OsEntry
entry_for mode e = record e { switches = switches_for mode e.switches }

-- the entries, of which the one at a place is changed
abbrev pub changed_at : (OsEntry → OsEntry) → List OsEntry → ℕ → List OsEntry
changed_at change [] place = []
changed_at change (e ∷ es) zero = change e ∷ es
changed_at change (e ∷ es) (suc place) = e ∷ changed_at change es place

-- the same boot.ini, but that its chosen entry asks for the mode
abbrev pub ini_for : SafeMode → BootIni → BootIni
ini_for mode ini = record ini { entries = changed_at (entry_for mode) ini.entries (ini.chosen - 1) }

-- the first mode that such switches ask for is this one
abbrev pub SwitchesAsk : Type 0
SwitchesAsk = (mode : SafeMode) (switches : List (List ℕ)) → mode_asked (switches_for mode switches) ≡ Some mode

-- the report where a mode is named is the one where none is named and the entry asks for it
abbrev pub NamedIsAsked : Type 0
NamedIsAsked =
    (form : ReportForm) (mode : SafeMode) (images : Bool) (ini : BootIni) (system : Arc) (tree : Tree)
    → report_of form (Some mode) images ini system tree ≡ report_of form None images (ini_for mode ini) system tree

-- and so it is with the answer of the command on what it has read
abbrev pub NamedEndsAsAsked : Type 0
NamedEndsAsAsked =
    (form : ReportForm) (mode : SafeMode) (inputs : SafeInputs) (status : Status) (old new : List ℕ)
    → EndsOnHive (Ok (question_on form (record inputs { mode = Some mode }))) status old new
    ↔ EndsOnHive (Ok (question_on form (record inputs { mode = None; ini = ini_for mode inputs.ini }))) status old new
