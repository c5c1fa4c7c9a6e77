use Rattle.std.specs.Prelude.{[], ◌∷◌, codes}
use Rattle.report_text.specs.line_text.Objects.{Number}
use Rattle.report_text.proofs.ObjectLemmas.{object_parts}
use Rattle.report_text.proofs.line_objects.line.push_number_object.Goals as goal

pub returns : goal.returns
returns c =
    object_parts c.close_object.result c.args.out.now.items c.open_object.new.out.items
    c.push_number_fields.new.out.items c.close_object.new.out.items c.args.line.now
    ((codes "number", Number c.args.number) ∷ [])
    c.in_ok-open_object.ensures c.in_ok-push_number_fields.ensures c.close_object.ensures
