use Rattle.std.specs.Prelude.{codes}
use Rattle.report_text.specs.line_objects.Objects.{select_fields}
use Rattle.report_text.proofs.ObjectLemmas.{object_parts}
use Rattle.report_text.proofs.line_objects.line.push_select.Goals as goal

pub returns : goal.returns
returns c =
    object_parts c.close_object.result c.args.out.now.items c.open_object.new.out.items
    c.push_select_fields.new.out.items c.close_object.new.out.items (codes "select")
    (select_fields c.args.current c.args.default c.args.failed c.args.good)
    c.in_ok-open_object.ensures c.in_ok-push_select_fields.ensures c.close_object.ensures
