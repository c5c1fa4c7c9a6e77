use Rattle.std.proofs.Common.{sym}
use Rattle.hive_model.specs.Tree.{is_item}
use Rattle.reg_tree.proofs.Halving.{found_item, found_none}
use Rattle.reg_tree.proofs.value_places.named_value.Goals as goal

pub returns-in-Some : goal.returns-in-Some
returns-in-Some c = found_item (λ v. v.now) (is_item c.args.name.now)
    c.args.items.now c.in-Some.at c.get.result c.get.ensures.lookup.3 (sym c.in-Some.ensures)

pub returns-in-None : goal.returns-in-None
returns-in-None c = sym (found_none (is_item c.args.name.now) c.args.items.now (sym c.in-None.ensures))
