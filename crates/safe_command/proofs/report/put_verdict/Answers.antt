use Rattle.report_words.specs.declared.line.Line.TheVariants.{Verdict as VerdictLine, End as EndLine}
use Rattle.safe_command.proofs.TextLemmas.{two_lines}
use Rattle.safe_command.proofs.report.put_verdict.Goals as goal

pub returns : goal.returns
returns c =
    two_lines c.args.form c.put_end.result c.args.text.now.items c.put_verdict_line.new.text.items
    c.put_end.new.text.items
    (VerdictLine c.args.verdict) EndLine c.in_ok-put_verdict_line.ensures c.put_end.ensures
