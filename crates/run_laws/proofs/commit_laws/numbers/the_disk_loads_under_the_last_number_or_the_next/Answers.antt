use Rattle.run_laws.proofs.CommitLemmas.{end_number, disk_number}
use Rattle.run_laws.proofs.commit_laws.numbers.the_disk_loads_under_the_last_number_or_the_next.Goals as goal

pub returns-clause-report : goal.returns-clause-report
returns-clause-report c = λ choice script placed images held flight text r before after first number splits
    is none left may.
    end_number choice script placed images held flight text r before after first number splits is none left may

pub returns-clause-gives_out : goal.returns-clause-gives_out
returns-clause-gives_out c = λ choice script placed wakes outcomes before after first number fits splits is
    none left may.
    disk_number choice script placed wakes outcomes before after first number fits splits is none left may
