use Rattle.std.specs.Prelude.{codes}
use Rattle.key_text.specs.Lines.{value_fields, value_json}
use Rattle.key_text.proofs.ObjectLemmas.{object_parts}
use Rattle.key_text.proofs.values.push_value_json.Goals as goal

pub returns : goal.returns
unfolding value_json
returns c =
    object_parts c.close_object.result c.args.out.now.items c.open_object.new.out.items
    c.push_value_fields.new.out.items
    c.close_object.new.out.items (codes "value") (value_fields c.args.value.now)
    c.in_ok-open_object.ensures c.in_ok-push_value_fields.ensures c.close_object.ensures
