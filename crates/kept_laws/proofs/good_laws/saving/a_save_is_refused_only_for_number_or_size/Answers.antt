use Rattle.kept_laws.proofs.ReadyLemmas.{run_ready, ready_refused, loaded_shallow}
use Rattle.kept_laws.proofs.good_laws.saving.a_save_is_refused_only_for_number_or_size.Goals as goal

pub returns-clause-ready : goal.returns-clause-ready
returns-clause-ready c = λ choice script placed images wakes outcomes last left over s clone fits is runs has.
    run_ready choice script placed images wakes outcomes last left over s clone fits is runs has

pub returns-clause-refused : goal.returns-clause-refused
returns-clause-refused c =
    λ choice script placed images wakes outcomes last left over s clone plan why fits is runs has planned refused.
    ready_refused last.version last.live clone plan why
    (run_ready choice script placed images wakes outcomes last left over s clone fits is runs has) planned refused

pub returns-clause-loaded : goal.returns-clause-loaded
returns-clause-loaded c = λ image state dirty l. loaded_shallow image (record { state = state; dirty = dirty }) l
