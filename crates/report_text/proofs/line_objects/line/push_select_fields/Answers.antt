use Rattle.std.specs.Prelude.{[], ◌∷◌, codes}
use Rattle.report_text.specs.line_text.Objects.{Number}
use Rattle.report_text.proofs.ObjectLemmas.{fields_then}
use Rattle.report_text.proofs.line_objects.line.push_select_fields.Goals as goal

pub returns : goal.returns
returns c =
    fields_then c.push_last_two.result c.args.out.now.items c.push_first_two.new.out.items
    c.push_last_two.new.out.items
    ((codes "current", Number c.args.current) ∷ (codes "default", Number c.args.default) ∷ [])
    ((codes "failed", Number c.args.failed) ∷ (codes "good", Number c.args.good) ∷ [])
    c.in_ok-push_first_two.ensures c.push_last_two.ensures
