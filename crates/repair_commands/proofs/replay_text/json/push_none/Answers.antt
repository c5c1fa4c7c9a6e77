use Rattle.std.proofs.Common.{[]}
use Rattle.std.specs.Prelude.{codes}
use Rattle.report_text.specs.line_text.Objects.{Number}
use Rattle.repair_commands.specs.replay_text.Lines.{log_fields}
use Rattle.repair_commands.proofs.Fields.{last_field}
use Rattle.repair_commands.proofs.replay_text.json.push_none.Goals as goal

pub returns : goal.returns
returns c =
    last_field c.push_number_field.result c.args.out.now.items c.push_log.new.out.items c.push_number_field.new.out.items
    (log_fields c.args.name (codes "new") []) (codes "entries") (Number 0) c.in_ok-push_log.ensures c.push_number_field.ensures
