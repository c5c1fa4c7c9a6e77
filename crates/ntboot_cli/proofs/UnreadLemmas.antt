-- There was no memory for the command line: nothing was printed and nothing done, which every command allows.
use Rattle.std.proofs.Common.{◌≡◌, inl, inr, ℕ, Bool, true, false, List, Option, None, Some, refl, sym, ap, subst, arith}
use Rattle.std.specs.Prelude.{Result, Ok, Err}
use Rattle.nt_edge.specs.Disk.{DiskState, new_state}
use Rattle.nt_edge.specs.Host.{Files, HostState}
use Rattle.command_words.specs.Words.{Reading, asks, help, refused, version, services, find, devices, sweep, graph, why, diff, salvage, whatif, check, key, replay, export, import, twin, control, safe, run, show, make}
use Rattle.command_words.specs.Words.{MakeAsked}
use Rattle.command_parts.specs.declared.command_parts.inputs.HiveFiles.{HiveFiles}
use Rattle.command_parts.specs.declared.command_parts.refusal.Refusal.{Refusal}
use Rattle.command_parts.specs.declared.command_parts.status.Status.TheVariants as statuses
use Rattle.command_parts.specs.command_parts.Inputs.{file_in, hive_in}
use Rattle.command_parts.specs.command_parts.Leaves.{Leaves, IsPartDone}
use Rattle.command_parts.specs.command_parts.OnHive.{EndsOnHive, Question}
use Rattle.command_parts.specs.declared.command_parts.reporting.FileReport.{FileReport}
use Rattle.command_parts.specs.command_parts.Refusals.{Answer, refusal_text}
use Rattle.command_parts.specs.command_parts.Reporting.{EndsReport, EndsTold, report_answer}
use Rattle.command_parts.specs.command_parts.Saves.{Saves, no_saves}
use Rattle.command_parts.proofs.DecideLemmas.{memory_decides, new_off, unrun, unsaved}
use Rattle.command_parts.proofs.LeaveLemmas.{no_front}
use Rattle.hive_alt.specs.Schemes.{Standing}
use Rattle.report_text.specs.declared.line_text.form.ReportForm.{ReportForm}
use Rattle.key_text.specs.Words.{path_in}
use Rattle.key_command.specs.key_command.Answer.{question_in as key_question_in}
use Rattle.repair_commands.specs.replay_command.Answer.{report_in}
use Rattle.set_commands.specs.check_command.Answer.{question_in as check_question_in}
use Rattle.start_commands.specs.whatif_command.Answer.{question_in as whatif_question_in}
use Rattle.start_commands.specs.why_command.Answer.{question_in as why_question_in}
use Rattle.start_commands.specs.graph_command.Answer.{question_in as graph_question_in}
use Rattle.device_command.specs.Answer.{question_in as devices_question_in}
use Rattle.find_command.specs.Answer.{question_in as find_question_in}
use Rattle.services_command.specs.Answer.{question_in as services_question_in}
use Rattle.sweep_command.specs.sweep_command.Answer.{files_asked, EndsSweep}
use Rattle.sweep_command.specs.declared.sweep_inputs.inputs.SweepInputs.{SweepInputs}
use Rattle.sweep_command.specs.sweep_inputs.Inputs.{inputs_in as sweep_inputs_in}
use Rattle.repair_commands.specs.salvage_command.Answer.{report_in as salvage_report_in}
use Rattle.safe_command.specs.Answer.{question_in as safe_question_in}
use Rattle.control_command.specs.Answer.{question_in as control_question_in}
use Rattle.twin_command.specs.Twinned.{EndsTwin, stands_by, twin_saves}
use Rattle.text_commands.specs.declared.said.How.{How}
use Rattle.text_commands.specs.Imported.{EndsImport, import_how, import_saves}
use Rattle.text_commands.specs.Exported.{EndsExported}
use Rattle.ntboot_cli.specs.declared.inputs.Inputs.{Inputs}
use Rattle.ntboot_cli.specs.declared.making.Usual.{Usual}
use Rattle.ntboot_cli.specs.Answer.{EndsInputs, EndsMade, EndsWords, LeavesFiles, form_of, saves_of, show_question_in}
use Rattle.ntboot_cli.specs.Inputs.{inputs_in}
use Rattle.ntboot_cli.specs.Made.{usual_in}
use Rattle.ntboot_cli.proofs.MakeLemmas.{new_part, part_more}

unread_inputs : (form : ReportForm) (wanted : Result Inputs Refusal) (saves : Saves) (disk : DiskState) (said : List ℕ)
    → disk ≡ new_state → EndsInputs form wanted saves disk statuses.Memory said said
unread_inputs form (Err r) saves disk said fresh = (inr (no_front (refusal_text r) said said refl), fresh)
unread_inputs form (Ok inputs) saves disk said fresh = inl (inr (inr (refl, refl, unrun disk fresh)))

unread_hive : (wanted : Result Question Refusal) (said : List ℕ) → EndsOnHive wanted statuses.Memory said said
unread_hive (Err r) said = inr (no_front (refusal_text r) said said refl)
unread_hive (Ok question) said = inr (inr (inl refl, refl))

unread_twin : (form : ReportForm) (wanted : Result HiveFiles Refusal) (stands : Standing) (number : Option ℕ) (saves : Saves)
    (disk : DiskState) (said : List ℕ)
    → disk ≡ new_state → EndsTwin form wanted stands number saves disk statuses.Memory said said
unread_twin form (Err r) stands number saves disk said fresh = (inr (no_front (refusal_text r) said said refl), fresh)
unread_twin form (Ok files) stands number saves disk said fresh = inl (inr (inr (refl, refl, unrun disk fresh)))

part_imported : (files : HiveFiles) (disk : DiskState) → disk ≡ new_state → IsPartDone files 0 disk
part_imported files disk fresh = subst (λ (d : DiskState). IsPartDone files 0 d) (sym fresh)
    (record { placed = omega arith; taken = omega arith; unordered = refl; uncut = refl })

unread_import : (wanted : Result HiveFiles Refusal) (saves : Saves) (how : How) (text : Result (List ℕ) Refusal)
    (disk : DiskState) (said : List ℕ)
    → disk ≡ new_state → EndsImport wanted saves how text disk statuses.Memory said said
unread_import (Err r) saves how text disk said fresh = (inr (no_front (refusal_text r) said said refl), fresh)
unread_import (Ok files) saves how text disk said fresh = inr (inr (inl (refl, refl, part_imported files disk fresh)))

unread_export : (form : ReportForm) (wanted : Result HiveFiles Refusal) (path : List (List ℕ)) (name : List ℕ) (files : Files)
    (said : List ℕ)
    → EndsExported form wanted path name files files statuses.Memory said said
unread_export form (Err r) path name files said = (inr (no_front (refusal_text r) said said refl), refl)
unread_export form (Ok found) path name files said = inr (inr (inl refl, refl, refl))

unread_told : (saved : Bool) (name : Option (List ℕ)) (answer : Answer) (file : List ℕ) (files : Files) (said : List ℕ)
    → EndsTold saved name answer file files files statuses.Memory said said
unread_told true (Some name) answer file files said = inr (no_front answer.text said said refl, refl)
unread_told false (Some name) answer file files said = (inr (no_front answer.text said said refl), refl)
unread_told true None answer file files said = (inr (no_front answer.text said said refl), refl)
unread_told false None answer file files said = (inr (no_front answer.text said said refl), refl)

unread_report : (wanted : Result FileReport Refusal) (name : Option (List ℕ)) (files : Files) (said : List ℕ)
    → EndsReport wanted name files files statuses.Memory said said
unread_report (Err r) name files said = (inr (no_front (refusal_text r) said said refl), refl)
unread_report (Ok report) name files said =
    unread_told report.saved name (report_answer report) report.file files said

unread_made : (form : ReportForm) (wanted : Result Usual Refusal) (words : MakeAsked) (saves : Saves) (disk : DiskState) (said : List ℕ)
    → disk ≡ new_state → EndsMade form wanted words.count saves disk statuses.Memory said said
unread_made form (Err r) words saves disk said fresh = (inr (no_front (refusal_text r) said said refl), fresh)
unread_made form (Ok usual) words saves disk said fresh = (
  inr (no_front _ said said refl),
  part_more _ disk (new_part form usual words disk fresh),
  inl (ap (λ (d : DiskState). d.history.takings) fresh),
)

unread_sweep : (form : ReportForm) (wanted : Result SweepInputs Refusal) (said : List ℕ)
    → EndsSweep form wanted statuses.Memory said said
unread_sweep form (Err r) said = inr (no_front (refusal_text r) said said refl)
unread_sweep form (Ok inputs) said = inr (inr (inl refl, refl))

unread_words : (asked : Reading) (host : HostState) (disk : DiskState) → disk ≡ new_state
    → EndsWords asked host.files host.files disk statuses.Memory host.said host.said
unread_words (refused reason) host disk fresh = (inr (no_front _ host.said host.said refl), fresh)
unread_words (help page) host disk fresh = (inr (no_front _ host.said host.said refl), fresh)
unread_words version host disk fresh = (inr (no_front _ host.said host.said refl), fresh)
unread_words (asks (run words) json) host disk fresh =
    unread_inputs (form_of json) (inputs_in words host.files) (saves_of (asks (run words) json)) disk host.said fresh
unread_words (asks (show words) json) host disk fresh =
    (unread_hive (show_question_in (form_of json) words host.files) host.said, fresh)
unread_words (asks (make words) json) host disk fresh =
    unread_made (form_of json) usual_in words (saves_of (asks (make words) json)) disk host.said fresh
unread_words (asks (safe words) json) host disk fresh =
    (unread_hive (safe_question_in (form_of json) words host.files) host.said, fresh)
unread_words (asks (control words) json) host disk fresh =
    (unread_hive (control_question_in (form_of json) words host.files) host.said, fresh)
unread_words (asks (twin words) json) host disk fresh =
    unread_twin (form_of json) (hive_in host.files words.hive words.alt) (stands_by words.scheme) words.default (twin_saves words)
    disk host.said fresh
unread_words (asks (import words) json) host disk fresh =
    unread_import (hive_in host.files words.hive words.log) (import_saves words) (import_how (form_of json) words)
    (file_in words.reg (host.files words.reg)) disk host.said fresh
unread_words (asks (export words) json) host disk fresh =
    (unread_export (form_of json) (hive_in host.files words.hive words.log) (path_in words.key) words.reg host.files host.said, fresh)
unread_words (asks (key words) json) host disk fresh =
    (unread_hive (key_question_in (form_of json) words host.files) host.said, fresh)
unread_words (asks (replay words) json) host disk fresh =
    (unread_report (report_in (form_of json) words host.files) words.save_hive host.files host.said, fresh)
unread_words (asks (check words) json) host disk fresh =
    (unread_hive (check_question_in (form_of json) words host.files) host.said, fresh)
unread_words (asks (whatif words) json) host disk fresh =
    (unread_hive (whatif_question_in (form_of json) words host.files) host.said, fresh)
unread_words (asks (salvage words) json) host disk fresh =
    (unread_report (salvage_report_in (form_of json) words host.files) words.save_hive host.files host.said, fresh)
unread_words (asks (diff words) json) host disk fresh = (inr (inl refl, refl), fresh)
unread_words (asks (why words) json) host disk fresh =
    (unread_hive (why_question_in (form_of json) words host.files) host.said, fresh)
unread_words (asks (graph words) json) host disk fresh =
    (unread_hive (graph_question_in (form_of json) words host.files) host.said, fresh)
unread_words (asks (sweep words) json) host disk fresh =
    (unread_sweep (form_of json) (sweep_inputs_in (files_asked words) host.files) host.said, fresh)
unread_words (asks (devices words) json) host disk fresh =
    (unread_hive (devices_question_in (form_of json) words host.files) host.said, fresh)
unread_words (asks (find words) json) host disk fresh =
    (unread_hive (find_question_in (form_of json) words host.files) host.said, fresh)
unread_words (asks (services words) json) host disk fresh =
    (unread_hive (services_question_in (form_of json) words host.files) host.said, fresh)

pub unread_leaves : (asked : Reading) (host : HostState) (disk : DiskState) → disk ≡ new_state
    → Leaves (EndsWords asked host.files host.files disk) statuses.Memory host host
unread_leaves asked host disk fresh =
    let d = memory_decides (EndsWords asked host.files host.files disk) no_saves host disk (new_off disk fresh)
    (unread_words asked host disk fresh) in
    d.decides.leaves

-- and no file changed
pub unread_files : (asked : Reading) (disk : DiskState) (files : Files) → LeavesFiles asked statuses.Memory disk files files
unread_files (refused reason) disk files = unsaved no_saves disk files files refl
unread_files (help page) disk files = unsaved no_saves disk files files refl
unread_files version disk files = unsaved no_saves disk files files refl
unread_files (asks (run words) json) disk files = unsaved (saves_of (asks (run words) json)) disk files files refl
unread_files (asks (show words) json) disk files = unsaved (saves_of (asks (show words) json)) disk files files refl
unread_files (asks (make words) json) disk files = unsaved (saves_of (asks (make words) json)) disk files files refl
unread_files (asks (safe words) json) disk files = unsaved (saves_of (asks (safe words) json)) disk files files refl
unread_files (asks (control words) json) disk files = unsaved (saves_of (asks (control words) json)) disk files files refl
unread_files (asks (twin words) json) disk files = unsaved (saves_of (asks (twin words) json)) disk files files refl
unread_files (asks (import words) json) disk files = unsaved (saves_of (asks (import words) json)) disk files files refl
unread_files (asks (export words) json) disk files = λ q other. refl
unread_files (asks (key words) json) disk files = unsaved (saves_of (asks (key words) json)) disk files files refl
unread_files (asks (replay words) json) disk files = λ q other. refl
unread_files (asks (check words) json) disk files = unsaved (saves_of (asks (check words) json)) disk files files refl
unread_files (asks (whatif words) json) disk files = unsaved (saves_of (asks (whatif words) json)) disk files files refl
unread_files (asks (salvage words) json) disk files = λ q other. refl
unread_files (asks (diff words) json) disk files = unsaved (saves_of (asks (diff words) json)) disk files files refl
unread_files (asks (why words) json) disk files = unsaved (saves_of (asks (why words) json)) disk files files refl
unread_files (asks (graph words) json) disk files = unsaved (saves_of (asks (graph words) json)) disk files files refl
unread_files (asks (sweep words) json) disk files = unsaved (saves_of (asks (sweep words) json)) disk files files refl
unread_files (asks (devices words) json) disk files = unsaved (saves_of (asks (devices words) json)) disk files files refl
unread_files (asks (find words) json) disk files = unsaved (saves_of (asks (find words) json)) disk files files refl
unread_files (asks (services words) json) disk files = unsaved (saves_of (asks (services words) json)) disk files files refl
