use Rattle.std.proofs.lemmas.List.{take_rest}
use Rattle.dependencies.proofs.OrderLemmas.{carried}
use Rattle.dependencies.proofs.runs.carried.Goals as goal

pub returns : goal.returns
returns c =
    let runs = c.args.runs.now in
    let kept = c.kept-kept.result in
    carried runs _ c.args.name kept c.in_ok-run.run' (take_rest runs kept) c.in_ok-run.ensures
