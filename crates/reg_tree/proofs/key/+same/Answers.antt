use Rattle.std.proofs.Common.{rules}
use Rattle.reg_tree.proofs.Trees.{same_tree}
use Rattle.hive_model.specs.Tree.{Head}
use Rattle.reg_tree.proofs.key.+same.Goals as goal

pub Key::same-returns : goal.Key::same-returns
Key::same-returns t c =
    let i = c.self.inside in
    let j = c.other.inside in
    let h : Head = record {
      name = i.name;
      flags = i.flags;
      stamp = i.stamp;
      class = i.class;
      security = i.security;
      values = i.values;
    } in
    let g : Head = record {
      name = j.name;
      flags = j.flags;
      stamp = j.stamp;
      class = j.class;
      security = j.security;
      values = j.values;
    } in
    same_tree h g i.children j.children c.args.self.now c.args.other.now c.same.result c.self.view_is c.other.view_is
    (search rules) c.same.ensures
