use Rattle.std.proofs.Common.{◌∙◌}
use Rattle.dependencies.proofs.OrderLemmas.{asked}
use Rattle.dependencies.proofs.order.has.Goals as goal

pub returns : goal.returns
returns c = c.is_ok.ensures.value
    ∙ asked c.args.names.now c.args.name.now c.search.result c.search.ensures.found c.search.ensures.absent
