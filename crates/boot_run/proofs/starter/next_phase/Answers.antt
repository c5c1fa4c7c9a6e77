use Rattle.std.proofs.Common.{sym, ◌∙◌}
use Rattle.boot_run.proofs.StartLemmas.{last_keeps, last_next}
use Rattle.boot_run.proofs.starter.next_phase.Goals as goal

pub returns-then-in_last_phase-clause-next : goal.returns-then-in_last_phase-clause-next
returns-then-in_last_phase-clause-next c =
    last_next c.end_phases.result c.args.runner.now.machine c.end_phases.new.runner.machine c.args.hive.now.tree
    c.requires c.end_phases.ensures.machine

pub returns-then-in_last_phase-clause-sound : goal.returns-then-in_last_phase-clause-sound
returns-then-in_last_phase-clause-sound c =
    last_keeps c.end_phases.result c.args.runner.now.machine c.end_phases.new.runner.machine c.args.hive.now.tree
    (sym c.in_last_phase.ensures ∙ c.if-in_last_phase.true) c.requires
    c.end_phases.ensures.machine
