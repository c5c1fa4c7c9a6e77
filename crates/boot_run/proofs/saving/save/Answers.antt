use Rattle.start_model.specs.Sets.{save_of}
use Rattle.boot_run.proofs.PlayLemmas.{rests-silent}
use Rattle.boot_run.proofs.SaveLemmas.{saved_may}
use Rattle.boot_run.proofs.saving.save.Goals as goal

pub returns-in_err-plan-clause-plays : goal.returns-in_err-plan-clause-plays
returns-in_err-plan-clause-plays g c = λ m s next tells out counts live stays.
    rests-silent c.from_residual.ensures.0
    (saved_may s c.args.clone m next (save_of m.version m.live c.args.clone) stays) c.requires.sound.0 live

pub returns-in-Some-clause-plays : goal.returns-in-Some-clause-plays
returns-in-Some-clause-plays g c = λ m s next tells out counts live stays.
    c.save_by.ensures.plays m s c.args.clone next tells out counts live (rw c.in-Some.is at c.in_ok-plan.ensures.plan)
    stays
