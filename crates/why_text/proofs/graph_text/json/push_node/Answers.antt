use Rattle.std.specs.Prelude.{codes}
use Rattle.why_text.specs.graph_text.Objects.{node_fields, node_json}
use Rattle.why_text.proofs.ObjectLemmas.{object_of}
use Rattle.why_text.proofs.graph_text.json.push_node.Goals as goal

pub returns : goal.returns
unfolding node_json
returns c =
    object_of c.close_object.result c.args.out.now.items c.open_object.new.out.items c.push_node_fields.new.out.items
    c.close_object.new.out.items (codes "node") (node_fields c.args.number c.args.node.now)
    c.in_ok-open_object.ensures c.in_ok-push_node_fields.ensures c.close_object.ensures
