-- What `export`, `replay` and `salvage` leave, each of which puts a file of its own.
use Rattle.std.proofs.Common.{◌≡◌, ◌∙◌, inl, inr, ℕ, Bool, true, false, cond, List, Option, None, Some, sym, ap, subst}
use Rattle.std.specs.Prelude.{Result, Ok, Err, bytes_eq}
use Rattle.std.proofs.lemmas.Bool.{false_from_ne_true}
use Rattle.std.proofs.lemmas.Slice.Eq.{bytes_eq-Decides}
use Rattle.nt_edge.specs.Disk.{DiskState, new_state}
use Rattle.nt_edge.specs.Host.{Files, HostState, KeepsOthers, Puts}
use Rattle.command_words.specs.Words.{Reading, ExportAsked, ReplayAsked, SalvageAsked, asks, export, replay, salvage}
use Rattle.command_parts.specs.declared.command_parts.inputs.HiveFiles.{HiveFiles}
use Rattle.command_parts.specs.declared.command_parts.refusal.Refusal.{Refusal}
use Rattle.command_parts.specs.declared.command_parts.status.Status.{Status}
use Rattle.command_parts.specs.declared.command_parts.status.Status.TheVariants as statuses
use Rattle.command_parts.specs.command_parts.Inputs.{hive_in, AsksSoMany}
use Rattle.command_parts.specs.declared.command_parts.reporting.FileReport.{FileReport}
use Rattle.command_parts.specs.command_parts.Refusals.{Answer}
use Rattle.command_parts.specs.command_parts.Reporting.{DecidesReport, EndsPut, EndsReport, EndsTold, report_answer}
use Rattle.command_parts.specs.command_parts.Saves.{KeepsUnsaved}
use Rattle.command_parts.proofs.DecideLemmas.{untouched_by, new_off}
use Rattle.key_text.specs.Words.{path_in}
use Rattle.text_commands.specs.Exported.{DecidesExport, EndsExported, PutsAs, asks_export, export_of}
use Rattle.repair_commands.specs.replay_command.Answer.{report_in}
use Rattle.repair_commands.specs.replay_command.Inputs.{asks_replay}
use Rattle.repair_commands.specs.salvage_command.Answer.{asks_salvage, report_in as salvage_report_in}
use Rattle.report_text.specs.declared.line_text.form.ReportForm.{ReportForm}
use Rattle.ntboot_cli.specs.Answer.{TopDecides, form_of}

-- an export changes no file but the one that it puts
same_kept : (old new : Files) (name : List ℕ) → new ≡ old → KeepsOthers old new name
same_kept old new name is = λ q differ. ap (λ (f : Files). f q) is

put_kept : (old new : Files) (name text : List ℕ) → Puts old new name text → KeepsOthers old new name
put_kept old new name text puts = λ q differ.
    puts q ∙ ap (λ (b : Bool). cond b (Some text) (old q))
    (false_from_ne_true (bytes_eq q name) (λ e. differ ((bytes_eq-Decides q name).0 e)))

puts_kept : (name : List ℕ) (put : Option (List ℕ)) (status : Status) (old new : Files) → PutsAs name put status old new
    → KeepsOthers old new name
puts_kept name None status old new is = same_kept old new name is
puts_kept name (Some text) statuses.Done old new puts = put_kept old new name text puts
puts_kept name (Some text) statuses.Usage old new kept = kept
puts_kept name (Some text) statuses.NoFile old new kept = kept
puts_kept name (Some text) statuses.ScriptFault old new kept = kept
puts_kept name (Some text) statuses.BootIniFault old new kept = kept
puts_kept name (Some text) statuses.HiveFault old new kept = kept
puts_kept name (Some text) statuses.RegFault old new kept = kept
puts_kept name (Some text) statuses.ReadFault old new is = same_kept old new name is
puts_kept name (Some text) statuses.Found old new kept = kept
puts_kept name (Some text) statuses.WriteFault old new kept = kept
puts_kept name (Some text) statuses.Memory old new kept = kept

others_kept : (form : ReportForm) (wanted : Result HiveFiles Refusal) (path : List (List ℕ)) (name : List ℕ) (before after : Files)
    (status : Status) (old new : List ℕ)
    → EndsExported form wanted path name before after status old new → KeepsOthers before after name
others_kept form (Err r) path name before after status old new end = same_kept before after name end.1
others_kept form (Ok files) path name before after status old new (inl (fault, load, ends, same)) =
    same_kept before after name same
others_kept form (Ok files) path name before after status old new (inr (inl (placed, loads, ends, puts, first))) =
    puts_kept name (export_of form path placed.state.tree).put status before after puts
others_kept form (Ok files) path name before after status old new (inr (inr (stop, said, same))) =
    same_kept before after name same

-- ---- a report changes no file but the one that it saves

same_unsaved : (old new : Files) (name : Option (List ℕ)) → new ≡ old
    → KeepsUnsaved (record { hive = name; log = None }) old new
same_unsaved old new name is = λ q other. ap (λ (f : Files). f q) is

others_unsaved : (old new : Files) (name : List ℕ) → KeepsOthers old new name
    → KeepsUnsaved (record { hive = Some name; log = None }) old new
others_unsaved old new name kept = λ q other. kept q (λ e. other (inl (ap Some (sym e))))

put_unsaved : (told : Status) (name file : List ℕ) (old new : Files) (status : Status)
    → EndsPut told name file old new status → KeepsUnsaved (record { hive = Some name; log = None }) old new
put_unsaved told name file old new status (inl (is, puts)) =
    others_unsaved old new name (put_kept old new name file puts)
put_unsaved told name file old new status (inr (stop, kept)) = others_unsaved old new name kept

told_unsaved : (saved : Bool) (name : Option (List ℕ)) (answer : Answer) (file : List ℕ) (before after : Files)
    (status : Status) (old new : List ℕ) → EndsTold saved name answer file before after status old new
    → KeepsUnsaved (record { hive = name; log = None }) before after
told_unsaved true (Some name) answer file before after status old new (inl (said, put)) =
    put_unsaved answer.status name file before after status put
told_unsaved true (Some name) answer file before after status old new (inr (stop, same)) =
    same_unsaved before after (Some name) same
told_unsaved false (Some name) answer file before after status old new (ends, same) =
    same_unsaved before after (Some name) same
told_unsaved true None answer file before after status old new (ends, same) = same_unsaved before after None same
told_unsaved false None answer file before after status old new (ends, same) = same_unsaved before after None same

report_unsaved : (wanted : Result FileReport Refusal) (name : Option (List ℕ)) (before after : Files) (status : Status)
    (old new : List ℕ) → EndsReport wanted name before after status old new
    → KeepsUnsaved (record { hive = name; log = None }) before after
report_unsaved (Err r) name before after status old new (ends, same) = same_unsaved before after name same
report_unsaved (Ok report) name before after status old new ends =
    told_unsaved report.saved name (report_answer report) report.file before after status old new ends

-- ---- the whole call

module _ (asked : Reading) (json : Bool) (status : Status) (old new : HostState) (disk : DiskState) where
  pub by_export : (words : ExportAsked) → asked ≡ asks (export words) json → disk ≡ new_state
      → DecidesExport (form_of json) words status old new
      → AsksSoMany (asks_export words) status old new → (status ≡ statuses.Usage → ⊥)
      → TopDecides asked status old new disk
  by_export words is fresh decides gets unused =
      subst (λ (a : Reading). TopDecides a status old new disk) (sym is) (record {
        leaves = record { keeps = decides.keeps; counts = decides.counts; said = λ tells. (decides.said tells, fresh) };
        files = λ tells. others_kept (form_of json) (hive_in old.files words.hive words.log) (path_in words.key)
            words.reg old.files new.files status old.said new.said
            (decides.said tells);
        off = new_off disk fresh;
        untouched = untouched_by status disk fresh;
        asks = gets;
        usage = λ e. absurd (unused e);
        refused = λ e. absurd cc;
      })

  pub by_replay : (words : ReplayAsked) → asked ≡ asks (replay words) json → disk ≡ new_state
      → DecidesReport (report_in (form_of json) words old.files) words.save_hive status old new
      → AsksSoMany (asks_replay words) status old new → (status ≡ statuses.Usage → ⊥)
      → TopDecides asked status old new disk
  by_replay words is fresh decides gets unused =
      subst (λ (a : Reading). TopDecides a status old new disk) (sym is) (record {
        leaves = record { keeps = decides.keeps; counts = decides.counts; said = λ tells. (decides.said tells, fresh) };
        files = λ tells. report_unsaved (report_in (form_of json) words old.files) words.save_hive
            old.files new.files status old.said new.said (decides.said tells);
        off = new_off disk fresh;
        untouched = untouched_by status disk fresh;
        asks = gets;
        usage = λ e. absurd (unused e);
        refused = λ e. absurd cc;
      })

  pub by_salvage : (words : SalvageAsked) → asked ≡ asks (salvage words) json → disk ≡ new_state
      → DecidesReport (salvage_report_in (form_of json) words old.files) words.save_hive status old new
      → AsksSoMany (asks_salvage words) status old new → (status ≡ statuses.Usage → ⊥)
      → TopDecides asked status old new disk
  by_salvage words is fresh decides gets unused =
      subst (λ (a : Reading). TopDecides a status old new disk) (sym is) (record {
        leaves = record { keeps = decides.keeps; counts = decides.counts; said = λ tells. (decides.said tells, fresh) };
        files = λ tells. report_unsaved (salvage_report_in (form_of json) words old.files) words.save_hive
            old.files new.files status old.said new.said (decides.said tells);
        off = new_off disk fresh;
        untouched = untouched_by status disk fresh;
        asks = gets;
        usage = λ e. absurd (unused e);
        refused = λ e. absurd cc;
      })
