use Rattle.start_model.specs.Fits.{woke_in, outcomes_of}
use Rattle.start_model.specs.Run.{run_of}
use Rattle.run_laws.proofs.NoteLemmas.{fits_possible}
use Rattle.run_laws.proofs.CommitLemmas.{next_number}
use Rattle.run_laws.proofs.commit_laws.numbers.each_number_in_a_report_follows_the_one_before.Goals as goal

pub returns-clause-run : goal.returns-clause-run
returns-clause-run c = λ choice script placed wakes outcomes before between after first second number fits
    splits is none.
    next_number choice script placed wakes outcomes before between after first second number fits splits is none

pub returns-clause-report : goal.returns-clause-report
returns-clause-report c = λ choice script placed images held flight text r before between after first second
    number splits is none.
    next_number choice script placed r.woken (outcomes_of text) before between after first second number
    (fits_possible images r.woken (woke_in (run_of choice script placed r.woken (outcomes_of text)).notes) r.fits)
    splits is none
