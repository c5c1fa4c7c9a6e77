use Rattle.std.proofs.Common.{sym, ap, ◌∙◌}
use Rattle.dependencies.specs.Index.{stands_in}
use Rattle.dependencies.proofs.OrderLemmas.{again}
use Rattle.dependencies.proofs.runs.unlisted_name.Goals as goal

pub returns-then-stands_in : goal.returns-then-stands_in
returns-then-stands_in c =
    let runs = c.args.runs.now in
    let there = ap (stands_in runs) (sym c.as_slice.ensures) ∙ sym c.stands_in.ensures ∙ c.if-stands_in.true in
    again runs c.args.name.now there
