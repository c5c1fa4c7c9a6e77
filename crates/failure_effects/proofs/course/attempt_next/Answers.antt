use Rattle.failure_effects.specs.declared.course.Course.{Course}
use Rattle.failure_effects.proofs.PlayLemmas.{goes_on_by, fewer_judged_by}
use Rattle.failure_effects.proofs.course.attempt_next.Goals as goal

pub returns-clause-next : goal.returns-clause-next
returns-clause-next c =
    let d : Course = record { told = c.push.new.self; machine = c.end_where_judged.new.machine } in
    goes_on_by c.push.result c.args.usable c.args.course.now d c.attempt.new.self c.in_ok-tried.tried c.told_of.result
    c.in_ok-tried.ensures.attempt c.told_of.ensures c.end_where_judged.ensures c.push.ensures.ok

pub returns-clause-fewer : goal.returns-clause-fewer
returns-clause-fewer c =
    fewer_judged_by c.push.result c.args.usable c.args.course.now.machine c.attempt.new.self c.end_where_judged.new.machine
    c.in_ok-tried.tried c.in_ok-tried.ensures.attempt c.end_where_judged.ensures
