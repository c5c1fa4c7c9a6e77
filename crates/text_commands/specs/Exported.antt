-- What does `export` put, and what does it say? (this project's own; JSON is RFC 8259)
--
-- The registry text of the key that the path leads to is put into a file, and then one line is printed. Where there is no such
-- key, or no such text, no file is put.
use Rattle.std.specs.Prelude.{◌≡◌, ◌⊎◌, ◌++◌, ◌+◌, ℕ, List, [], ◌∷◌, Option, Some, None, Result, Ok, Err, IfSome, codes}
use Rattle.std.specs.Fmt.{decimal}
use Rattle.nt_bytes.specs.declared.fault.HiveFault.{HiveFault}
use Rattle.nt_edge.specs.Host.{Files, HostState, Puts, KeepsOthers}
use Rattle.hive_model.specs.Load.{Loads, LoadFault}
use Rattle.hive_model.specs.Tree.{Tree, key, key_count, find_key, item_count}
use Rattle.start_model.specs.Possible.{Woken}
use Rattle.reg_text.specs.declared.stop.RegFault.{RegFault}
use Rattle.reg_text.specs.declared.stop.RegFaultKind.{RegFaultKind}
use Rattle.reg_text.specs.declared.stop.RegFaultKind.TheVariants.{Mark, Header, Root, Line, NotText}
use Rattle.reg_text.specs.Writing.{reg_text_of}
use Rattle.command_words.specs.Words.{ExportAsked}
use Rattle.command_parts.specs.declared.command_parts.status.Status.{Status}
use Rattle.command_parts.specs.declared.command_parts.status.Status.TheVariants as statuses
use Rattle.command_parts.specs.declared.command_parts.refusal.Refusal.{Refusal}
use Rattle.command_parts.specs.declared.command_parts.refusal.Refusal.TheVariants.{HiveFault as BadHive}
use Rattle.command_parts.specs.declared.command_parts.inputs.HiveFiles.{HiveFiles}
use Rattle.command_parts.specs.command_parts.Inputs.{hive_in, asks_hive}
use Rattle.command_parts.specs.command_parts.Leaves.{Leaves}
use Rattle.command_parts.specs.command_parts.Placed.{image_in}
use Rattle.command_parts.specs.command_parts.Refusals.{Answer, Ends, refusal}
use Rattle.nt_bytes.specs.Counts.{capped}
use Rattle.key_text.specs.Words.{path_in}
use Rattle.report_text.specs.line_text.Objects.{Value, Number, Text, object_text}
use Rattle.report_text.specs.declared.line_text.form.ReportForm.{ReportForm}
use Rattle.report_text.specs.declared.line_text.form.ReportForm.TheVariants as forms

-- ---- answers

abbrev pub kind_word : RegFaultKind → List ℕ
kind_word Mark = codes "mark"
kind_word Header = codes "header"
kind_word Root = codes "root"
kind_word Line = codes "line"
kind_word NotText = codes "not-text"

-- the answer that a text, or a tree that is to be one, has a fault
unfoldable pub fault_text : RegFault → List ℕ
fault_text fault = codes "reg fault " ++ decimal fault.line ++ codes " " ++ kind_word fault.kind ++ codes "\n"

abbrev pub fault_answer : RegFault → Answer
fault_answer fault = record { status = statuses.RegFault; text = fault_text fault }

-- the line on what was exported
unfoldable pub exported_text : Tree → List ℕ
exported_text t = codes "exported " ++ decimal (capped (key_count t)) ++ codes " keys " ++ decimal (capped (item_count t)) ++ codes " values\n"

-- the same line as an object
unfoldable pub exported_json : Tree → List ℕ
exported_json t =
    object_text (codes "exported") ((codes "keys", Number (capped (key_count t))) ∷ (codes "values", Number (capped (item_count t))) ∷ [])

-- and in one of the two forms
abbrev pub exported_in : ReportForm → Tree → List ℕ
exported_in forms.Text t = exported_text t
exported_in forms.Json t = exported_json t

-- the fields of the answer that there is no such key
abbrev pub no_key_fields : List (List ℕ × Value)
no_key_fields = (codes "command", Text (codes "export")) ∷ (codes "word", Text (codes "no-key")) ∷ []

-- the line where there is no such key
abbrev pub no_key_in : ReportForm → List ℕ
no_key_in forms.Text = codes "export refused no-key\n"
no_key_in forms.Json = object_text (codes "refused") no_key_fields

-- what is put into the file, if anything, and what is answered
pub record Export : Type 0 where
  pub put : Option (List ℕ)
  pub answer : Answer

-- a key with its text, or with the fault that it has none; a fault is text in either form
abbrev pub text_export : ReportForm → Tree → Result (List ℕ) RegFault → Export
text_export form t (Ok text) = record { put = Some text; answer = record { status = statuses.Done; text = exported_in form t } }
text_export form t (Err fault) = record { put = None; answer = fault_answer fault }

-- the key that was found, if any
abbrev pub found_export : ReportForm → List (List ℕ) → Option Tree → Export
found_export form path None = record { put = None; answer = record { status = statuses.Done; text = no_key_in form } }
found_export form path (Some t) = text_export form t (reg_text_of path t)

-- of a whole tree
abbrev pub export_of : ReportForm → List (List ℕ) → Tree → Export
export_of form path root = found_export form path (find_key path root)

-- ---- the end

-- What was to be put is in the file of this name at the end. Where a file could not be read no file was changed, and at another
-- stop that one alone may have been.
abbrev pub PutsAs : List ℕ → Option (List ℕ) → Status → Files → Files → Type 0
PutsAs name None status old new = new ≡ old
PutsAs name (Some text) statuses.Done old new = Puts old new name text
PutsAs name (Some text) statuses.ReadFault old new = new ≡ old
PutsAs name (Some text) stopped old new = KeepsOthers old new name

-- nothing was printed before the file of this name has what was to be put
abbrev pub PutsFirst : List ℕ → Option (List ℕ) → Files → Files → List ℕ → List ℕ → Type 0
PutsFirst name put before after old new = IfSome put (λ text. (new ≡ old) ⊎ Puts before after name text)

-- The first obstacle of the command line's files is printed; or the hive has a first fault, and that is printed; or it loads as a state, and
-- its export is put and then said; or there was no memory or a read fault before anything was done. Before the export nothing is put.
abbrev pub EndsExported : ReportForm → Result HiveFiles Refusal → List (List ℕ) → List ℕ → Files → Files → Status → List ℕ → List ℕ → Type 0
EndsExported form (Err r) path name before after status old new = Ends (refusal r) status old new × (after ≡ before)
EndsExported form (Ok files) path name before after status old new =
    ((fault : HiveFault) × (LoadFault (image_in files) fault) × Ends (refusal (BadHive fault)) status old new × (after ≡ before))
    ⊎ (((placed : Woken) × (Loads (image_in files) placed.state placed.dirty)
    × Ends (export_of form path placed.state.tree).answer status old new × PutsAs name (export_of form path placed.state.tree).put status before after
    × PutsFirst name (export_of form path placed.state.tree).put before after old new)
    ⊎ (((status ≡ statuses.Memory) ⊎ (status ≡ statuses.ReadFault)) × (new ≡ old) × (after ≡ before)))

-- the host is left so by the whole command
abbrev pub DecidesExport : ReportForm → ExportAsked → Status → HostState → HostState → Type 0
DecidesExport form words status old new =
    Leaves (EndsExported form (hive_in old.files words.hive words.log) (path_in words.key) words.reg old.files new.files) status old new

-- how many files are asked for
abbrev pub asks_export : ExportAsked → Files → ℕ
asks_export words files = asks_hive files words.hive words.log
