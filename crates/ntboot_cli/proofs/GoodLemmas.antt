-- LastKnownGood in a run that was printed whole, and in one that was given up.
use Rattle.std.proofs.Common.{ℕ, List, Option, map, subst}
use Rattle.hive_model.specs.Image.{IsCrashImage}
use Rattle.nt_edge.specs.Disk.{DiskState}
use Rattle.start_model.specs.Events.{Event}
use Rattle.start_model.specs.Possible.{Woken}
use Rattle.start_model.specs.Boot.{Choice}
use Rattle.start_model.specs.Run.{run_of}
use Rattle.start_model.specs.Fits.{ArePossible, KeepsGood, woke_in, outcomes_of}
use Rattle.report_text.specs.declared.line_text.form.ReportForm.{ReportForm}
use Rattle.run_parts.specs.printed_parts.Parts.{Told}
use Rattle.run_parts.specs.printed_parts.Reports.{Reports, ReportsFront}
use Rattle.start_laws.proofs.ReportLemmas.{report-possible, front-possible, front-shorter}
use Rattle.kept_laws.proofs.FitLemmas.{fits_whole, fits_front}
use Rattle.kept_laws.proofs.RunLemmas.{run_of-keeps_good}

pub whole_good : (choice : Option ℕ → Choice) (script : List Event) (placed : Woken) (told told' : Told)
    (before after : DiskState) (r : Reports (run_of choice script placed) told told' before after)
    → let run = run_of choice script placed r.report.woken (outcomes_of r.text) in KeepsGood run.notes run.disk
whole_good choice script placed told told' before after r =
    let left = IsCrashImage after.held after.flight in
    let images = map (λ w. w.image) r.added in
    run_of-keeps_good choice script placed r.report.woken (outcomes_of r.text)
    (fits_whole r.report.woken (woke_in (run_of choice script placed r.report.woken (outcomes_of r.text)).notes)
    (report-possible choice script placed images left r.text r.report))

pub front_good : (form : ReportForm) (choice : Option ℕ → Choice) (script : List Event) (placed : Woken) (old new : List ℕ)
    (before after : DiskState) (r : ReportsFront form (run_of choice script placed) old new before after)
    → let run = run_of choice script placed r.report.woken (outcomes_of r.text) in KeepsGood run.notes run.disk
front_good form choice script placed old new before after r =
    let left = IsCrashImage after.held after.flight in
    let images = map (λ w. w.image) r.added in
    let more = front-shorter choice script placed images left r.text r.report in
    let P = ArePossible r.report.woken in
    run_of-keeps_good choice script placed r.report.woken (outcomes_of r.text)
    (fits_front r.report.woken (woke_in (run_of choice script placed r.report.woken (outcomes_of r.text)).notes) more.0
    (subst P more.1 (front-possible choice script placed images left r.text r.report)))
