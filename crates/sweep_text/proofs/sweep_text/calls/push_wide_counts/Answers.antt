use Rattle.std.proofs.Common.{codes, [], ◌∷◌}
use Rattle.report_text.specs.line_text.Objects.{Number}
use Rattle.sweep_text.proofs.ObjectLemmas.{object_of}
use Rattle.sweep_text.proofs.sweep_text.calls.push_wide_counts.Goals as goal

pub returns : goal.returns
returns c =
    object_of c.close_object.result c.args.out.now.items c.open_object.new.out.items c.push_counts_fields.new.out.items
    c.close_object.new.out.items (codes "calls")
    ((codes "count", Number c.args.count) ∷ (codes "before", Number c.args.before) ∷ (codes "after", Number c.args.after) ∷ (codes "neither", Number 0) ∷ [])
    c.in_ok-open_object.ensures c.in_ok-push_counts_fields.ensures c.close_object.ensures
