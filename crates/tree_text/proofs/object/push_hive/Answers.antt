use Rattle.std.specs.Prelude.{[], ◌∷◌, codes}
use Rattle.report_text.specs.line_text.Objects.{Number}
use Rattle.report_text.proofs.ObjectLemmas.{object_parts}
use Rattle.tree_text.proofs.object.push_hive.Goals as goal

pub returns : goal.returns
returns c =
    object_parts c.close_object.result c.args.out.now.items c.open_object.new.out.items
    c.push_hive_fields.new.out.items c.close_object.new.out.items (codes "tree")
    ((codes "sequence", Number c.args.sequence) ∷ (codes "bulk", Number c.args.bulk) ∷ [])
    c.in_ok-open_object.ensures c.in_ok-push_hive_fields.ensures c.close_object.ensures
