use Rattle.std.proofs.Common.{◌≡◌, ◌∙◌}
use Rattle.hive_model.specs.Bins.{look_up}
use Rattle.hive_edit.specs.Edits.{inside_place}
use Rattle.hive_edit.specs.Hive.{cells_in}
use Rattle.hive_edit.proofs.HiveLemmas.{root_there}
use Rattle.hive_edit.proofs.SetLemmas.{inside_on, inside_off_value, inside_off_key, inside_seen}
use Rattle.hive_edit.proofs.hive.HiveBytes.inside_at.Goals as goal
use Rattle.hive_edit.proofs.hive.HiveBytes.inside_at.Goals.{After-cells}

pub key_at-requires : goal.key_at-requires
key_at-requires c =
    let i = c.self.inside in
    root_there i.cells.bins c.cells.result.now i.root i.version i.bulk c.self.invariant c.cells.ensures

seen : (c : After-cells) → let i = c.self.inside in let h = c.args.self.now in
    inside_place (look_up i.version c.cells.result.now) c.args.path.now c.args.name.now i.root
    ≡ inside_place (cells_in h) c.args.path.now c.args.name.now h.root
seen c =
    let i = c.self.inside in
    inside_seen i.cells c.cells.result.now i.root i.version c.args.self.now c.args.path.now c.args.name.now
    c.cells.ensures c.self.view_is

pub returns-in-None : goal.returns-in-None
returns-in-None c =
    let i = c.self.inside in
    inside_off_key (look_up i.version c.cells.result.now) c.args.path.now c.args.name.now i.root c.in-None.ensures.place
    ∙ seen (goal.at.returns-in-None c).After-cells

pub returns-in-None-value_at : goal.returns-in-None-value_at
returns-in-None-value_at c =
    let i = c.self.inside in
    inside_off_value (look_up i.version c.cells.result.now)
    c.args.path.now c.args.name.now i.root c.in-Some.key c.in-Some.ensures.place c.in-None-value_at.ensures.place
    ∙ seen (goal.at.returns-in-None-value_at c).After-cells

pub returns-in-Some-value_at : goal.returns-in-Some-value_at
returns-in-Some-value_at c =
    let i = c.self.inside in
    c.if_inside.ensures
    ∙ inside_on (look_up i.version c.cells.result.now)
    c.args.path.now c.args.name.now i.root c.in-Some.key c.in-Some-value_at.value c.in-Some.ensures.place
    c.in-Some-value_at.ensures.place
    ∙ seen (goal.at.returns-in-Some-value_at c).After-cells
