use Rattle.std.proofs.Common.{◌∙◌}
use Rattle.reg_tree.proofs.Outcomes.{on_ok}
use Rattle.quiet_run.proofs.CaseLemmas.{next_off, next_on, sound_number}
use Rattle.quiet_run.proofs.starter.next_phase.Goals as goal

pub plan_next-requires-clause-number : goal.plan_next-requires-clause-number
plan_next-requires-clause-number c = sound_number c.args.machine.now.start c.in-Some.number _ c.in-Some.ensures c.requires.sound

pub returns-in-Some : goal.returns-in-Some
returns-in-Some c =
    record {
      next = on_ok c.plan_next.result _ _
          (λ h. h ∙ next_on c.args.live.now c.args.machine.now c.in-Some.number _ c.in-Some.ensures) c.plan_next.ensures;
    }

pub returns-in-None : goal.returns-in-None
returns-in-None c = record { next = next_off c.args.live.now c.args.machine.now c.in-None.ensures }
