use Rattle.std.proofs.Common.{subst}
use Rattle.start_model.specs.Run.{run_of}
use Rattle.hive_model.specs.Image.{IsCrashImage}
use Rattle.start_model.specs.Fits.{ArePossible, woke_in, outcomes_of}
use Rattle.start_laws.proofs.ReportLemmas.{report-possible, front-possible, front-shorter}
use Rattle.kept_laws.proofs.FitLemmas.{fits_taken, fits_whole, fits_front}
use Rattle.kept_laws.proofs.RunLemmas.{run_of-keeps_good}
use Rattle.kept_laws.proofs.good_laws.good.last_known_good_names_a_good_set.Goals as goal

pub returns-clause-taken : goal.returns-clause-taken
returns-clause-taken c = λ choice script placed wakes outcomes fits.
    run_of-keeps_good choice script placed wakes outcomes
    (fits_taken wakes (woke_in (run_of choice script placed wakes outcomes).notes) fits)

pub returns-clause-whole : goal.returns-clause-whole
returns-clause-whole c = λ choice script placed wakes outcomes fits.
    run_of-keeps_good choice script placed wakes outcomes
    (fits_whole wakes (woke_in (run_of choice script placed wakes outcomes).notes) fits)

pub returns-clause-report : goal.returns-clause-report
returns-clause-report c = λ choice script placed images held flight text r.
    run_of-keeps_good choice script placed r.woken (outcomes_of text)
    (fits_whole r.woken (woke_in (run_of choice script placed r.woken (outcomes_of text)).notes)
    (report-possible choice script placed images (IsCrashImage held flight) text r))

pub returns-clause-front : goal.returns-clause-front
returns-clause-front c = λ choice script placed images held flight text r.
    (let left = IsCrashImage held flight in
    let more = front-shorter choice script placed images left text r in
    let P = ArePossible r.woken in
    run_of-keeps_good choice script placed r.woken (outcomes_of text)
    (fits_front r.woken (woke_in (run_of choice script placed r.woken (outcomes_of text)).notes) more.0
    (subst P more.1 (front-possible choice script placed images left text r))))
