use Rattle.std.proofs.Common.{rules}
use Rattle.hive_model.specs.Tree.{Head}
use Rattle.tree_text.proofs.ObjectLemmas.{key_parts}
use Rattle.tree_text.proofs.objects.+push_key.Goals as goal

pub push_key-returns : goal.push_key-returns
push_key-returns t c =
    let i = c.key.inside in
    let h : Head = record {
      name = i.name;
      flags = i.flags;
      stamp = i.stamp;
      class = i.class;
      security = i.security;
      values = i.values;
    } in
    key_parts c.push_keys.result c.args.level c.saturating_add.result h i.children c.args.key.now
    c.as_slice.result.now c.as_slice-2.result.now c.as_slice-3.result.now c.args.out.now.items
    c.push_head.new.out.items c.push_values.new.out.items c.push_keys.new.out.items
    c.key.view_is (search rules) (search rules) (search rules) (search rules)
    c.in_ok-push_head.ensures c.in_ok-push_values.ensures c.push_keys.ensures
