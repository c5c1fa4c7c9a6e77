use Rattle.std.proofs.Common.{sym, ◌∙◌}
use Rattle.report_text.proofs.PathLemmas.{plain_written, quoted_written}
use Rattle.report_text.proofs.line_text.path.push_written.Goals as goal

pub returns-then-is_plain : goal.returns-then-is_plain
returns-then-is_plain c =
    rw (plain_written c.args.text.now (sym c.is_plain.ensures ∙ c.if-is_plain.true)) c.push_name.ensures

pub returns-else-is_plain : goal.returns-else-is_plain
returns-else-is_plain c =
    rw (quoted_written c.args.text.now (sym c.is_plain.ensures ∙ c.if-is_plain.false)) c.push_quoted.ensures
