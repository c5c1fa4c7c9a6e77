-- What do the steps of `export` do? (this project's own)
use Rattle.std.specs.Prelude.{◌≡◌, true, List, ℕ, Option, Result, Ok, Err}
use Rattle.nt_bytes.specs.declared.fault.HiveFault.{HiveFault}
use Rattle.nt_edge.specs.Host.{HostState, AsksNone}
use Rattle.nt_edge.specs.declared.host.HostStop.TheVariants.{Memory as NoMemory}
use Rattle.hive_model.specs.Image.{Image}
use Rattle.hive_model.specs.Load.{Loads, LoadFault}
use Rattle.hive_model.specs.Tree.{Tree}
use Rattle.start_model.specs.Possible.{Woken}
use Rattle.command_parts.specs.declared.command_parts.status.Status.{Status}
use Rattle.command_parts.specs.declared.command_parts.status.Status.TheVariants as statuses
use Rattle.command_parts.specs.declared.command_parts.refusal.Refusal.TheVariants.{HiveFault as BadHive}
use Rattle.command_parts.specs.declared.command_parts.refusal.Obstacle.{Obstacle}
use Rattle.command_parts.specs.declared.command_parts.refusal.Obstacle.TheVariants.{Refused, Stopped}
use Rattle.command_parts.specs.declared.command_parts.inputs.HiveFiles.{HiveFiles}
use Rattle.command_parts.specs.command_parts.Leaves.{Leaves}
use Rattle.command_parts.specs.command_parts.Refusals.{Ends, IsToldAs}
use Rattle.report_text.specs.declared.line_text.form.ReportForm.{ReportForm}
use Rattle.text_commands.specs.declared.exporting.Outcome.{Outcome}
use Rattle.text_commands.specs.Exported.{Export, export_of, PutsAs, PutsFirst, EndsExported}

-- what is put, with what is answered
abbrev pub export_with : Option (List ℕ) → Status → List ℕ → Export
export_with put status text = record { put = put; answer = record { status = status; text = text } }

-- the export of this tree, or there was no memory
abbrev pub TreeExports : ReportForm → List (List ℕ) → Tree → Result Outcome Obstacle → Type 0
TreeExports form path root (Ok e) = export_with e.put e.status e.line ≡ export_of form path root
TreeExports form path root (Err obstacle) = obstacle ≡ Stopped NoMemory

-- the export of the tree that the image loads as, or its first fault, or there was no memory
abbrev pub ExportsAs : ReportForm → Image → List (List ℕ) → Result Outcome Obstacle → Type 0
ExportsAs form image path (Ok e) =
    (placed : Woken) × (Loads image placed.state placed.dirty) × (export_with e.put e.status e.line ≡ export_of form path placed.state.tree)
ExportsAs form image path (Err (Refused r)) = (fault : HiveFault) × (LoadFault image fault) × (r ≡ BadHive fault)
ExportsAs form image path (Err (Stopped stop)) = stop ≡ NoMemory

-- the export was put and printed, or a prefix of that was done: nothing was printed before the text was put
pub record PutsExport (name : List ℕ) (e : Export) (status : Status) (old new : HostState) : Type 0 where
  pub leaves : Leaves (Ends e.answer) status old new
  pub files : old.tells ≡ true → PutsAs name e.put status old.files new.files
  pub first : old.tells ≡ true → PutsFirst name e.put old.files new.files old.said new.said
  pub unasked : AsksNone old new
  pub told : IsToldAs e.answer.status status

-- without an obstacle in words and files: no file was asked for, and bad usage or a read fault is no answer any more
pub record DecidesHive (form : ReportForm) (files : HiveFiles) (path : List (List ℕ)) (name : List ℕ) (status : Status) (old new : HostState) : Type 0 where
  pub leaves : Leaves (EndsExported form (Ok files) path name old.files new.files) status old new
  pub unasked : AsksNone old new
  pub kept : status ≡ statuses.Usage → ⊥
  pub unread : status ≡ statuses.ReadFault → ⊥
