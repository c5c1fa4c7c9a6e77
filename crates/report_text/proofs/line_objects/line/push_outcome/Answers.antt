use Rattle.std.specs.Prelude.{[], ◌∷◌, codes}
use Rattle.report_text.specs.line_text.Objects.{Text}
use Rattle.report_text.proofs.ObjectLemmas.{object_parts}
use Rattle.report_text.proofs.line_objects.line.push_outcome.Goals as goal

pub returns : goal.returns
returns c =
    object_parts c.close_object.result c.args.out.now.items c.open_object.new.out.items
    c.push_try_fields.new.out.items c.close_object.new.out.items (codes "try")
    ((codes "name", Text c.args.name.now) ∷ (codes "outcome", Text c.args.outcome.now) ∷ [])
    c.in_ok-open_object.ensures c.in_ok-push_try_fields.ensures c.close_object.ensures
