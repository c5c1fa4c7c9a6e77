-- What was saved loads as the disk may load.
use Rattle.std.proofs.Common.{◌≡◌, ◌⊎◌, inl, inr, ⊎_elim, ℕ, false, List, [], map, refl, sym, subst, ◌∙◌}
use Rattle.hive_model.specs.Image.{Image, Primary, Log, IsFileOf, image_of}
use Rattle.hive_model.specs.Load.{Loads}
use Rattle.boot_machine.specs.boot_machine.Views.{event_in}
use Rattle.boot_run.specs.Choices.{choices}
use Rattle.start_model.specs.Act.{RunState}
use Rattle.start_model.specs.Summary.{no_summary}
use Rattle.run_laws.specs.run_laws.Quiet.{AllFinished}
use Rattle.run_laws.specs.rest_laws.Rest.{IsAtRest}
use Rattle.run_laws.proofs.RestLemmas.{run_of-rests, settled_loads}
use Rattle.start_laws.proofs.ReportLemmas.{report-ended, report-quiet}
use Rattle.kept_laws.proofs.QuietLemmas.{reports-finished}
use Rattle.hive_laws.proofs.SavedLemmas.{primary_loads}
use Rattle.report_text.specs.declared.line_text.form.ReportForm.{ReportForm}
use Rattle.run_parts.proofs.ReportLemmas.{as_text, text_report}
use Rattle.ntboot_cli.specs.Made.{told}
use Rattle.nt_edge.specs.Disk.{DiskState}
use Rattle.start_model.specs.Fits.{MayLoad, outcomes_of}
use Rattle.start_model.specs.Possible.{Woken, Possible, settled_at, loads_as}
use Rattle.run_parts.specs.run_parts.Reports.{LeftOf}
use Rattle.hive_laws.specs.saved_laws.Saved.{HasUntornBlock}
use Rattle.hive_laws.proofs.SavedLemmas.{files_load}
use Rattle.ntboot_cli.specs.declared.inputs.Inputs.{Inputs}
use Rattle.ntboot_cli.specs.declared.making.Usual.{Usual}
use Rattle.ntboot_cli.specs.Answer.{RunsWhole, quiet_in, run_in}
use Rattle.ntboot_cli.specs.Made.{made_run, IsMade}

files_may : (p : Possible) (image : Image) (hive log : List ℕ) → MayLoad p image → IsFileOf image Primary hive
    → IsFileOf image Log log
    → HasUntornBlock image → MayLoad p (image_of hive log)
files_may p image hive log may primary_is log_is untorn = record {
  woken = may.woken;
  loads = files_load image hive log may.woken.state may.woken.dirty primary_is log_is untorn may.loads;
  possible = may.possible;
}

-- what is held is one of what may be left
held_left : (disk : DiskState) → LeftOf disk disk.held
held_left disk = λ a. inl refl

pub run_saved : (form : ReportForm) (inputs : Inputs) (placed : Woken) (count : ℕ) (before after : DiskState) (old new hive log : List ℕ)
    (r : RunsWhole form inputs placed count before after old new)
    → IsFileOf after.held Primary hive → IsFileOf after.held Log log → HasUntornBlock after.held
    → MayLoad r.reports.report.last.disk (image_of hive log)
run_saved form inputs placed count before after old new hive log r =
    files_may r.reports.report.last.disk after.held hive log
    (r.reports.report.loads after.held (r.settles.left after.held (held_left after)))

pub made_saved : (usual : Usual) (count saved : ℕ) (disk : DiskState) (hive log : List ℕ)
    → IsMade usual count saved disk
    → IsFileOf disk.held Primary hive → IsFileOf disk.held Log log → HasUntornBlock disk.held
    → MayLoad (made_run usual count).state.disk (image_of hive log)
made_saved usual count saved disk hive log m =
    files_may (made_run usual count).state.disk disk.held hive log (m.loads disk.held (held_left disk))

-- of a run whose disk counts no stop: the primary alone loads as the last settled state, or no start woke the disk
pub quiet_saved : (form : ReportForm) (inputs : Inputs) (placed : Woken) (count : ℕ) (before after : DiskState)
    (old new hive log : List ℕ) → RunsWhole form inputs placed count before after old new
    → after.cuts ≡ 0 → after.faults ≡ 0 → IsFileOf after.held Primary hive
    → Loads (image_of hive log) (quiet_in inputs placed).state.disk.settled false
    ⊎ ((quiet_in inputs placed).state.disk ≡ loads_as placed)
quiet_saved form inputs placed count before after old new hive log r cuts faults primary_is =
    let choice = choices inputs.ini inputs.system in
    let script = map event_in inputs.script in
    let report = r.reports.report in
    let text : List ℕ = r.reports.text in
    let images = map (λ w. w.image) r.reports.added in
    let all : AllFinished (outcomes_of text) =
    reports-finished choice script placed (as_text [] (told form old no_summary)) (as_text text (told form new r.summary))
    before r.left (text_report (run_in inputs placed) (told form old no_summary) (told form new r.summary) before r.left r.reports)
    (sym r.settles.cuts ∙ cuts) (sym r.settles.faults ∙ faults) in
    let ended = report-ended choice script placed images (LeftOf r.left) text report in
    let state : report.last ≡ (quiet_in inputs placed).state =
    (report-quiet choice script placed images (LeftOf r.left) text report all).state in
    let rest : IsAtRest placed report.last.disk =
    run_of-rests choice script placed report.woken (outcomes_of text) report.last _ _ report.taken
    (subst AllFinished (sym ended) all) in
    let may : MayLoad report.last.disk after.held =
    report.loads after.held (r.settles.left after.held (held_left after)) in
    let P : RunState → Type 0 = λ m. Loads (image_of hive log) m.disk.settled false ⊎ (m.disk ≡ loads_as placed) in
    let here : P report.last =
    ⊎_elim (λ (is : report.last.disk ≡ settled_at report.last.disk.settled).
    inl (primary_loads after.held hive log report.last.disk.settled primary_is
    (settled_loads report.last.disk after.held is may))) (λ is. inr is) rest in
    subst P state here
