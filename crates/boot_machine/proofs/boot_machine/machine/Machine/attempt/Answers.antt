use Rattle.boot_machine.proofs.Attempts.{attempt_whole}
use Rattle.boot_machine.proofs.boot_machine.machine.Machine.attempt.Goals as goal

pub returns-clause-attempt : goal.returns-clause-attempt
returns-clause-attempt c =
    attempt_whole c.args.self.now c.self.inside.start c.in-Some.start c.attempt.new.start c.self.inside.failures
    c.attempt.new.failures c.self.inside.fallback_due c.args.usable c.self.inside.vital c.attempt.result
    c.self.view_is c.in-Some.is c.attempt.ensures.attempt
