use Rattle.std.proofs.Common.{List, ap, ◌∙◌}
use Rattle.hive_model.specs.Bins.{Bin, look_up}
use Rattle.hive_edit.specs.Deleting.{pair_place}
use Rattle.hive_edit.proofs.DeletingLemmas.{step_seen}
use Rattle.hive_edit.proofs.hive.HiveBytes.key_pair.Goals as goal

pub returns-clause-step : goal.returns-clause-step
returns-clause-step c =
    let i = c.self.inside in
    let path = c.args.path.now in
    step_seen i.cells i.root i.version i.bulk c.args.self.now path c.pair_at.result c.self.invariant c.self.view_is
    (c.pair_at.ensures ∙ ap (λ (z : List Bin). pair_place (look_up i.version z) path i.root) c.cells.ensures)
