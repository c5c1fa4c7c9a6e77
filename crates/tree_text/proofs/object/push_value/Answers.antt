use Rattle.std.specs.Prelude.{codes}
use Rattle.report_text.proofs.ObjectLemmas.{object_parts}
use Rattle.tree_text.specs.TreeObjects.{value_fields}
use Rattle.tree_text.proofs.object.push_value.Goals as goal

pub returns : goal.returns
returns c =
    object_parts c.close_object.result c.args.out.now.items c.open_object.new.out.items
    c.push_value_fields.new.out.items c.close_object.new.out.items (codes "value")
    (value_fields c.args.level c.args.value.now)
    c.in_ok-open_object.ensures c.in_ok-push_value_fields.ensures c.close_object.ensures
