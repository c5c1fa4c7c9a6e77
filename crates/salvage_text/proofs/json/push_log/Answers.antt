use Rattle.std.specs.Prelude.{codes}
use Rattle.salvage_text.specs.Lines.{log_fields}
use Rattle.salvage_text.proofs.ObjectLemmas.{ended}
use Rattle.salvage_text.proofs.json.push_log.Goals as goal

pub returns : goal.returns
returns c =
    ended c.close_object.result c.args.out.now.items c.open_object.new.out.items c.push_log_fields.new.out.items
    c.close_object.new.out.items (codes "fault") (log_fields c.args.stop)
    c.in_ok-open_object.ensures c.in_ok-push_log_fields.ensures c.close_object.ensures
