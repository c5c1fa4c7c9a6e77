use Rattle.kept_laws.proofs.ToldLemmas.{reports-counted}
use Rattle.kept_laws.proofs.order_laws.told.a_report_that_tells_no_stop_counts_none.Goals as goal

pub returns : goal.returns
returns c = λ choice script placed told told' before after r all.
    reports-counted choice script placed told told' before after r all
