use Rattle.std.specs.Prelude.{[], ◌∷◌, codes}
use Rattle.report_text.specs.line_text.Objects.{Number, Text}
use Rattle.report_text.proofs.ObjectLemmas.{fields_then}
use Rattle.ntboot_cli.specs.Made.{last_word}
use Rattle.ntboot_cli.proofs.making.push_fields.Goals as goal

pub returns : goal.returns
returns c =
    fields_then c.push_outcome.result c.args.out.now.items c.push_counts.new.out.items c.push_outcome.new.out.items
    ((codes "services", Number c.args.count) ∷ (codes "started", Number c.args.summary.now.started)
    ∷ (codes "failed", Number c.args.summary.now.failed) ∷ (codes "unmet", Number c.args.summary.now.unmet) ∷ [])
    ((codes "verdict", Text (last_word c.args.summary.now.verdict))
    ∷ (codes "sequence", Number c.args.summary.now.sequence) ∷ [])
    c.in_ok-push_counts.ensures c.push_outcome.ensures
