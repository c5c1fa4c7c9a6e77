use Rattle.std.specs.Prelude.{[], ◌∷◌, codes}
use Rattle.report_text.specs.line_text.Objects.{Number}
use Rattle.report_text.proofs.ObjectLemmas.{object_parts}
use Rattle.text_commands.proofs.exporting.push_exported.Goals as goal

pub returns : goal.returns
returns c =
    object_parts c.close_object.result c.args.out.now.items c.open_object.new.out.items
    c.push_counts.new.out.items c.close_object.new.out.items (codes "exported")
    ((codes "keys", Number c.args.keys) ∷ (codes "values", Number c.args.values) ∷ [])
    c.in_ok-open_object.ensures c.in_ok-push_counts.ensures c.close_object.ensures
