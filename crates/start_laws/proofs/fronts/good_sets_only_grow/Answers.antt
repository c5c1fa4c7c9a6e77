use Rattle.start_laws.proofs.FrontLemmas.{run_of-front, part_of-front}
use Rattle.start_laws.proofs.GoodLemmas.{good_stays, good_in_front}
use Rattle.start_laws.proofs.fronts.good_sets_only_grow.Goals as goal

pub returns-clause-grow : goal.returns-clause-grow
returns-clause-grow c = good_stays

pub returns-clause-with_more : goal.returns-clause-with_more
returns-clause-with_more c =
    λ choice script placed wakes outcomes w o set g. good_in_front _ _ set
    (run_of-front choice script placed wakes outcomes w o) g

pub returns-clause-with_more_events : goal.returns-clause-with_more_events
returns-clause-with_more_events c =
    λ choice script more placed wakes outcomes set g. good_in_front _ _ set
    (part_of-front choice script more placed wakes outcomes) g
