use Rattle.std.proofs.Common.{ap, ◌∙◌}
use Rattle.std.specs.Option.{is_some}
use Rattle.hive_edit.proofs.HiveLemmas.{root_there, has_there}
use Rattle.hive_edit.proofs.hive.HiveBytes.has.Goals as goal

pub key_at-requires : goal.key_at-requires
key_at-requires c =
    let i = c.self.inside in
    root_there i.cells.bins c.cells.result.now i.root i.version i.bulk c.self.invariant c.cells.ensures

pub returns : goal.returns
returns c =
    let i = c.self.inside in
    c.is_some.ensures ∙ ap is_some c.key_at.ensures.place
    ∙ has_there i.cells c.cells.result.now i.root i.version i.bulk c.args.self.now c.args.path.now c.self.invariant
    c.cells.ensures c.self.view_is
