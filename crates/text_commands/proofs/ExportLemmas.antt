-- What `export` leaves.
use Rattle.std.proofs.Common.{◌≡◌, inl, inr, ℕ, List, refl, ap}
use Rattle.std.specs.Prelude.{Result, Ok, Err}
use Rattle.nt_bytes.specs.declared.version.HiveVersion.{HiveVersion}
use Rattle.hive_model.specs.Image.{Image}
use Rattle.hive_model.specs.Load.{state_of}
use Rattle.hive_model.specs.Tree.{Tree}
use Rattle.hive_edit.specs.Hive.{HiveCells}
use Rattle.hive_store.specs.Checks.{ChecksAs, ChecksCells}
use Rattle.nt_edge.specs.Host.{HostState, Files}
use Rattle.nt_edge.specs.declared.host.HostStop.{HostStop}
use Rattle.nt_edge.specs.declared.host.HostStop.TheVariants.{Read, Write, Memory}
use Rattle.command_words.specs.Words.{ExportAsked}
use Rattle.command_parts.specs.declared.command_parts.inputs.HiveFiles.{HiveFiles}
use Rattle.command_parts.specs.declared.command_parts.refusal.Refusal.{Refusal}
use Rattle.command_parts.specs.declared.command_parts.refusal.Obstacle.{Obstacle}
use Rattle.command_parts.specs.declared.command_parts.refusal.Obstacle.TheVariants.{Refused, Stopped}
use Rattle.command_parts.specs.command_parts.Inputs.{hive_in}
use Rattle.command_parts.specs.command_parts.Leaves.{Looks, stopped_as}
use Rattle.command_parts.specs.command_parts.Refusals.{refusal_text}
use Rattle.command_parts.proofs.LeaveLemmas.{stop_counts, no_front}
use Rattle.key_text.specs.Words.{path_in}
use Rattle.text_commands.specs.Exported.{EndsExported, DecidesExport}
use Rattle.report_text.specs.declared.line_text.form.ReportForm.{ReportForm}
use Rattle.text_commands.specs.Exports.{TreeExports, ExportsAs}
use Rattle.text_commands.specs.declared.exporting.Outcome.{Outcome}

-- ---- the export of a tree

-- the export is that of the tree that was read
pub exported_as : (form : ReportForm) (image : Image) (path : List (List ℕ)) (root : Tree) (sequence : ℕ) (version : HiveVersion)
    (r : Result Outcome Obstacle)
    → ChecksAs image (Ok (root, sequence, version)) → TreeExports form path root r → ExportsAs form image path r
exported_as form image path root sequence version (Ok e) loads is =
    (record { state = state_of root sequence version; dirty = loads.0 }, loads.1, is)
exported_as form image path root sequence version (Err (Stopped stop)) loads is = stop_is stop Memory is
  where
    stop_is : (a b : HostStop) → Stopped a ≡ Stopped b → a ≡ b
    stop_is a b e = cc
exported_as form image path root sequence version (Err (Refused why)) loads is = absurd cc

-- the same of the cells of a hive that was judged
pub exported_by_cells : (form : ReportForm) (image : Image) (path : List (List ℕ)) (cells : HiveCells) (sequence : ℕ) (version : HiveVersion)
    (r : Result Outcome Obstacle)
    → ChecksCells image (Ok (cells, sequence, version)) → TreeExports form path cells.tree r → ExportsAs form image path r
exported_by_cells form image path cells sequence version r checks is =
    exported_as form image path cells.tree sequence version r checks.0 is

-- ---- after the search for the hive

stopped_end : (form : ReportForm) (wanted : Result HiveFiles Refusal) (path : List (List ℕ)) (name : List ℕ) (stop : HostStop)
    (before after : Files) (old new : List ℕ)
    → new ≡ old → after ≡ before → (stop ≡ Write → ⊥)
    → EndsExported form wanted path name before after (stopped_as stop) old new
stopped_end form (Err r) path name Read before after old new same files unwritten = (inr same, files)
stopped_end form (Ok x) path name Read before after old new same files unwritten = inr (inr (inr refl, same, files))
stopped_end form wanted path name Write before after old new same files unwritten = absurd (unwritten refl)
stopped_end form (Err r) path name Memory before after old new same files unwritten =
    (inr (no_front (refusal_text r) old new same), files)
stopped_end form (Ok x) path name Memory before after old new same files unwritten = inr (inr (inl refl, same, files))

-- the environment stopped the search
pub stopped_exports : (form : ReportForm) (words : ExportAsked) (stop : HostStop) (old new : HostState)
    → Looks {A = HiveFiles} (hive_in old.files words.hive words.log) (Err (Stopped stop)) old new
    → DecidesExport form words (stopped_as stop) old new
stopped_exports form words stop old new a = record {
  keeps = a.keeps;
  counts = stop_counts stop old new a.counts;
  said = λ tells. stopped_end form (hive_in old.files words.hive words.log) (path_in words.key)
      words.reg stop old.files new.files old.said new.said
      (a.unsaid tells) (a.files tells) (λ e. a.unwritten (ap (λ (s : HostStop). Stopped s) e));
}
