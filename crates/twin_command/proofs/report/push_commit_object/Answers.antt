use Rattle.std.specs.Prelude.{codes}
use Rattle.report_text.proofs.ObjectLemmas.{object_parts}
use Rattle.twin_command.specs.Told.{commit_fields}
use Rattle.twin_command.proofs.report.push_commit_object.Goals as goal

pub returns : goal.returns
returns c =
    object_parts c.close_object.result c.args.text.now.items c.open_object.new.out.items
    c.push_commit_fields.new.text.items c.close_object.new.out.items (codes "commit")
    (commit_fields c.args.number)
    c.in_ok-open_object.ensures c.in_ok-push_commit_fields.ensures c.close_object.ensures
