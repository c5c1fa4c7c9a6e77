use Rattle.boot_machine.specs.boot_machine.Views.{tried_in}
use Rattle.safe_boot.proofs.PlayLemmas.{goes_on_by, fewer_by_push}
use Rattle.safe_boot.proofs.playing.attempt_next.Goals as goal

pub returns-clause-next : goal.returns-clause-next
returns-clause-next c =
    goes_on_by c.push.result c.args.machine.now c.attempt.new.self c.args.lines.now c.push.new.self
    (tried_in c.in_ok-tried.tried) c.in_ok-tried.ensures.attempt c.push.ensures.ok

pub returns-clause-fewer : goal.returns-clause-fewer
returns-clause-fewer c = fewer_by_push c.push.result c.args.machine.now c.attempt.new.self
    (tried_in c.in_ok-tried.tried) c.in_ok-tried.ensures.attempt
