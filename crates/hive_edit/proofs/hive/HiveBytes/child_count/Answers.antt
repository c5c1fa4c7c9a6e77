use Rattle.std.proofs.Common.{◌≡◌, List, length, Some, None, Ok, sym, subst}
use Rattle.hive_model.specs.Bins.{Bin, look_up}
use Rattle.hive_model.specs.Footprint.{key_place}
use Rattle.hive_model.specs.KeyNode.{key_node_at}
use Rattle.hive_model.specs.Tree.{Tree, children}
use Rattle.hive_model.specs.Walk.{reading}
use Rattle.hive_edit.proofs.StrainedLemmas.{no_count, children_seen}
use Rattle.hive_edit.proofs.hive.HiveBytes.child_count.Goals as goal

pub returns-in-Some : goal.returns-in-Some
returns-in-Some c =
    let i = c.self.inside in
    let at = c.in-Some.at in
    let place = subst (λ (bs : List Bin). key_place (look_up i.version bs) c.args.path.now i.root ≡ Some at)
    c.cells.ensures (sym c.in-Some.ensures.place) in
    children_seen i.cells i.root i.version i.bulk c.args.self.now c.args.path.now at c.above_at.result.count
    c.self.invariant c.self.view_is place
    (λ m read. (c.above_at.ensures m
    (subst (λ (bs : List Bin). reading key_node_at (look_up i.version bs) at ≡ Ok m) (sym c.cells.ensures)
    read)).count)

pub returns-in-None : goal.returns-in-None
returns-in-None c =
    let i = c.self.inside in
    let nowhere = subst (λ (bs : List Bin). key_place (look_up i.version bs) c.args.path.now i.root ≡ None)
    c.cells.ensures (sym c.in-None.ensures.place) in
    sym (no_count (λ (k : Tree). length (children k))
    i.cells i.root i.version i.bulk c.args.self.now c.args.path.now c.self.invariant c.self.view_is nowhere)
