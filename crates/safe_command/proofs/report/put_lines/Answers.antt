use Rattle.std.proofs.Common.{refl}
use Rattle.safe_boot.specs.Lines as safe
use Rattle.safe_command.proofs.TextLemmas.{more_lines}
use Rattle.safe_command.proofs.report.put_lines.Goals as goal

pub loop-line-preserved : goal.loop-line-preserved
loop-line-preserved c =
    more_lines c.args.form safe.line_of c.args.lines.now c.loop-line.line-index c.line-item.result
    (safe.line_of c.line-item.result)
    c.args.text.now.items c.loop-line.text.items c.put_safe_line.new.text.items c.loop-line-test.true c.line-item.is
    refl c.in_ok-put_safe_line.ensures c.loop-line.invariant
