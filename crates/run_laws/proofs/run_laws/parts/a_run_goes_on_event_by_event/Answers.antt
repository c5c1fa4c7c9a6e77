use Rattle.run_laws.proofs.PartLemmas.{part_of-push, run_from-end, run_from-within, then_run-front}
use Rattle.run_laws.proofs.run_laws.parts.a_run_goes_on_event_by_event.Goals as goal

pub returns-clause-pushed : goal.returns-clause-pushed
returns-clause-pushed c =
    λ choice es e first wakes outcomes m w o is. part_of-push choice es e first wakes outcomes m w o is

pub returns-clause-ended : goal.returns-clause-ended
returns-clause-ended c = λ choice es first wakes outcomes m is. run_from-end choice es first wakes outcomes m is

pub returns-clause-given_up : goal.returns-clause-given_up
returns-clause-given_up c =
    λ choice es e more first wakes outcomes m w o is. run_from-within choice es e more first wakes outcomes m w o is

pub returns-clause-begins : goal.returns-clause-begins
returns-clause-begins c = λ go first rest. then_run-front go first rest
