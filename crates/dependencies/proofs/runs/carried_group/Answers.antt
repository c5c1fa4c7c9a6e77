use Rattle.dependencies.proofs.OrderLemmas.{carried_alike}
use Rattle.dependencies.proofs.runs.carried_group.Goals as goal

pub returns : goal.returns
returns c =
    carried_alike c.carried.result c.args.runs.now c.args.name.now c.in_ok-own.own c.carried.ensures c.in_ok-own.ensures
