use Rattle.std.proofs.Common.{◌∙◌, ap, sym}
use Rattle.start_model.specs.Starter.{good_is_usable, starter_step}
use Rattle.boot_machine.specs.boot_machine.Steps.{is_at_end}
use Rattle.boot_run.specs.Starts.{is_under_way}
use Rattle.boot_run.proofs.PlayLemmas.{plays-as, counted}
use Rattle.boot_run.proofs.StepLemmas.{steps, attempt_none}
use Rattle.boot_run.proofs.starter.step.Goals as goal

pub returns-then-at_phase_end-clause-plays : goal.returns-then-at_phase_end-clause-plays
returns-then-at_phase_end-clause-plays g c = λ m next tells counts live stays.
    let same = counted m c.args.runner.now counts in
    let q = steps m.machine.start m next (ap is_under_way same ∙ c.requires.under_way) in
    plays-as (ap (starter_step q.start m next) (sym (attempt_none m.machine (good_is_usable m.live)
    (ap is_at_end same ∙ sym c.at_phase_end.ensures ∙ c.if-at_phase_end.true))) ∙ q.act)
    (c.change_phase.ensures.plays m q.start next tells counts live q.is stays)

pub returns-clause-plays : goal.returns-clause-plays
returns-clause-plays g c = λ m next tells counts live stays.
    let way = ap is_under_way (counted m c.args.runner.now counts) ∙ c.requires.under_way in
    let q = steps m.machine.start m next way in
    plays-as q.act (c.try_next.ensures.plays m q.start next tells counts live stays)
