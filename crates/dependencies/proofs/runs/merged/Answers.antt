use Rattle.dependencies.proofs.OrderLemmas.{joined_ok}
use Rattle.dependencies.proofs.runs.merged.Goals as goal

pub returns : goal.returns
returns c =
    joined_ok c.new.result c.in_ok-names.names.items c.push_some.new.names.items c.args.runs.now c.args.name
    c.in_ok-names.ensures c.in_ok-push_some.ensures c.new.ensures
