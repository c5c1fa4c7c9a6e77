use Rattle.run_laws.proofs.CommitLemmas.{last_commit, last_loads}
use Rattle.run_laws.proofs.commit_laws.commits.the_last_commit_in_a_report_is_on_the_disk.Goals as goal

pub returns-clause-last : goal.returns-clause-last
returns-clause-last c = λ choice script placed wakes outcomes last left over before after what number is said none.
    last_commit choice script placed wakes outcomes last left over before after what number is said none

pub returns-clause-loads : goal.returns-clause-loads
returns-clause-loads c = λ choice script placed images held flight text r before after what number said none i left.
    last_loads choice script placed images held flight text r before after what number said none i left
