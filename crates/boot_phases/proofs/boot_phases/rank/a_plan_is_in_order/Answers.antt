use Rattle.start_model.specs.Order.{ranks_of}
use Rattle.boot_phases.proofs.PlaceLemmas.{each_before_the_later}
use Rattle.boot_phases.proofs.RankLemmas.{count_ordered}
use Rattle.boot_phases.proofs.RisingLemmas.{ranks_rise}
use Rattle.boot_phases.proofs.boot_phases.rank.a_plan_is_in_order.Goals as goal

pub returns-clause-before : goal.returns-clause-before
returns-clause-before c =
    λ set phase tried. each_before_the_later (ranks_of set phase tried) (ranks_rise set phase tried)

pub returns-clause-same : goal.returns-clause-same
returns-clause-same c = λ ranks r. count_ordered r ranks
