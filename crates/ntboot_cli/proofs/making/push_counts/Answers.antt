use Rattle.std.specs.Prelude.{[], ◌∷◌, codes}
use Rattle.report_text.specs.line_text.Objects.{Number}
use Rattle.report_text.proofs.ObjectLemmas.{fields_then}
use Rattle.ntboot_cli.proofs.making.push_counts.Goals as goal

pub returns : goal.returns
returns c =
    fields_then c.push_lost.result c.args.out.now.items c.push_tried.new.out.items c.push_lost.new.out.items
    ((codes "services", Number c.args.count) ∷ (codes "started", Number c.args.summary.now.started) ∷ [])
    ((codes "failed", Number c.args.summary.now.failed) ∷ (codes "unmet", Number c.args.summary.now.unmet) ∷ [])
    c.in_ok-push_tried.ensures c.push_lost.ensures
