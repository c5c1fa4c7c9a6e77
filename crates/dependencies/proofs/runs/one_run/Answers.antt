use Rattle.std.proofs.Common.{◌≡◌, ◌++◌, ◌∷◌, [], ap, ◌∙◌, rules}
use Rattle.dependencies.proofs.OrderLemmas.{in_one_run}
use Rattle.dependencies.proofs.runs.one_run.Goals as goal

pub returns : goal.returns
returns c = λ q.
    let empty : c.new-runs.result.items ≡ [] = search rules in
    in_one_run c.push.new.self.items c.in_ok-only.only c.args.names.items q
    (c.in_ok-push.ensures.items ∙ ap (λ l. l ++ c.in_ok-only.only ∷ []) empty) c.in_ok-only.ensures
