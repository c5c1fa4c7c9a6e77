use Rattle.std.proofs.Common.{ap, ◌∙◌}
use Rattle.report_text.specs.declared.line_text.form.ReportForm.TheVariants.{Text}
use Rattle.why_text.specs.why_text.Lines.{printed_lines}
use Rattle.why_text.proofs.EndLemmas.{part_put}
use Rattle.why_text.proofs.graph_text.quotes.push_part.Goals as goal

pub returns : goal.returns
returns c =
    part_put c.push_unended.result c.args.out.now.items c.push_unended.new.out.items c.as_slice.result.now c.args.line.now
    (c.as_slice.ensures ∙ c.in_ok-text.ensures.exact ∙ ap (printed_lines Text) c.from_ref.ensures.value) c.push_unended.ensures
