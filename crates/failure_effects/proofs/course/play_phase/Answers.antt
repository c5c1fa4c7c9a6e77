use Rattle.failure_effects.proofs.ListedLemmas.{phase_listed}
use Rattle.failure_effects.proofs.course.play_phase.Goals as goal

pub returns : goal.returns
returns c =
    phase_listed c.end_phase.result c.args.lists.now c.args.usable c.args.course.now c.attempt_all.new.course
    c.end_phase.new.course c.in_ok-attempt_all.ensures c.end_phase.ensures
