use Rattle.kept_laws.proofs.QuietLemmas.{reports-said, reports-summary, reports-loads}
use Rattle.kept_laws.proofs.order_laws.quiet.without_counts_the_report_is_the_quiet_one.Goals as goal

pub returns-clause-said : goal.returns-clause-said
returns-clause-said c = λ choice script placed told told' before after r cuts faults.
    reports-said choice script placed told told' before after r cuts faults

pub returns-clause-summary : goal.returns-clause-summary
returns-clause-summary c = λ choice script placed told told' before after r cuts faults.
    reports-summary choice script placed told told' before after r cuts faults

pub returns-clause-loads : goal.returns-clause-loads
returns-clause-loads c = λ choice script placed told told' before after r cuts faults i left.
    reports-loads choice script placed told told' before after r cuts faults i left
