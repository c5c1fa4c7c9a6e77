use Rattle.std.specs.Prelude.{[], ◌∷◌, codes}
use Rattle.report_text.specs.line_text.Objects.{Number, Text}
use Rattle.report_text.proofs.ObjectLemmas.{object_parts}
use Rattle.report_text.proofs.line_objects.objects.push_state_object.Goals as goal

pub returns : goal.returns
returns c =
    object_parts c.close_object.result c.args.out.now.items c.open_object.new.out.items
    c.push_load_fields.new.out.items c.close_object.new.out.items (codes "load")
    ((codes "sequence", Number c.args.sequence) ∷ (codes "state", Text c.args.state.now) ∷ [])
    c.in_ok-open_object.ensures c.in_ok-push_load_fields.ensures c.close_object.ensures
