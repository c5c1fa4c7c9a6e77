use Rattle.std.specs.Prelude.{[], ◌∷◌, codes}
use Rattle.report_text.specs.line_text.Objects.{Number, Text}
use Rattle.report_text.proofs.ObjectLemmas.{object_parts}
use Rattle.report_text.proofs.line_objects.line.push_set.Goals as goal

pub returns : goal.returns
returns c =
    object_parts c.close_object.result c.args.out.now.items c.open_object.new.out.items
    c.push_set_fields.new.out.items c.close_object.new.out.items (codes "set")
    ((codes "number", Number c.args.number) ∷ (codes "by", Text c.args.by.now) ∷ [])
    c.in_ok-open_object.ensures c.in_ok-push_set_fields.ensures c.close_object.ensures
