use Rattle.std.proofs.Common.{◌∙◌}
use Rattle.report_words.specs.declared.line.Line.TheVariants.{Entry as EntryLine}
use Rattle.boot_ini.specs.boot_ini.Choice.{path_at}
use Rattle.safe_command.specs.Report.{verdict_lines}
use Rattle.safe_command.proofs.TextLemmas.{two_parts}
use Rattle.safe_command.proofs.report.other_text.Goals as goal

pub returns : goal.returns
returns c =
    c.from_vec.ensures
    ∙ two_parts c.args.form c.new-text.result.items c.put_entry.new.text.items c.put_verdict.new.text.items
    (EntryLine c.args.number (path_at c.args.ini.now c.args.number)) (verdict_lines c.args.verdict)
    c.new-text.ensures.items
    c.in_ok-put_entry.ensures c.in_ok-put_verdict.ensures
