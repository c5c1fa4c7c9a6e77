use Rattle.std.specs.Prelude.{codes}
use Rattle.std.specs.Fmt.{decimal}
use Rattle.twin_command.proofs.TextLemmas.{line_ended}
use Rattle.twin_command.proofs.report.push_commit.Goals as goal

pub returns : goal.returns
returns c =
    line_ended c.push_text.result c.args.text.now.items c.push_count.new.line.items c.push_text.new.line.items
    (codes "commit default ") (decimal c.args.number) c.in_ok-push_count.ensures c.push_text.ensures
