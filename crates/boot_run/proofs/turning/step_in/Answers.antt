use Rattle.std.proofs.Common.{ap, sym, subst}
use Rattle.std.specs.Prelude.{IfOk}
use Rattle.boot_machine.specs.boot_machine.Views.{event_in}
use Rattle.start_model.specs.Events.{Event}
use Rattle.boot_run.specs.Begins.{IsStepOf}
use Rattle.boot_run.proofs.turning.step_in.Goals as goal

pub returns-in-Set : goal.returns-in-Set
returns-in-Set c =
    let P : Event → Type 0 = λ v. IfOk c.set_step.result (IsStepOf c.args.number v) in
    record { step = subst P (sym (ap event_in c.in-Set.is)) c.set_step.ensures.step; fits = c.set_step.ensures.fits }

pub returns-in-Delete : goal.returns-in-Delete
returns-in-Delete c =
    let P : Event → Type 0 = λ v. IfOk c.delete_step.result (IsStepOf c.args.number v) in
    record { step = subst P (sym (ap event_in c.in-Delete.is)) c.delete_step.ensures.step; fits = c.delete_step.ensures.fits }

pub returns-in-Make : goal.returns-in-Make
returns-in-Make c =
    let P : Event → Type 0 = λ v. IfOk c.make_step.result (IsStepOf c.args.number v) in
    record { step = subst P (sym (ap event_in c.in-Make.is)) c.make_step.ensures.step; fits = c.make_step.ensures.fits }

pub returns-in-Remove : goal.returns-in-Remove
returns-in-Remove c =
    let P : Event → Type 0 = λ v. IfOk c.remove_step.result (IsStepOf c.args.number v) in
    record { step = subst P (sym (ap event_in c.in-Remove.is)) c.remove_step.ensures.step; fits = c.remove_step.ensures.fits }
