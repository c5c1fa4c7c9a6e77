use Rattle.std.proofs.Common.{◌∙◌}
use Rattle.reg_tree.proofs.Outcomes.{on_ok}
use Rattle.boot_phases.specs.boot_phases.Phases.{phase_in}
use Rattle.quiet_run.specs.Play.{watched_in}
use Rattle.quiet_run.proofs.CaseLemmas.{noted_by}
use Rattle.quiet_run.proofs.starter.note.Goals as goal

pub returns-in-Some-clause-watched : goal.returns-in-Some-clause-watched
returns-in-Some-clause-watched c =
    on_ok c.note_phase.result _ _
    (λ h. λ i. record {
      state = c.note_phase.ensures.state i;
      last = (h ∙ noted_by (watched_in c.args.play.now) c.args.play.now.machine.start c.in-Some.number _ (phase_in c.phase-phase.result)
          c.in-Some.ensures c.phase-phase.ensures) i;
    })
    c.note_phase.ensures.last
