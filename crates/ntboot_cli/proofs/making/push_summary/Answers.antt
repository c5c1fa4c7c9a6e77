use Rattle.std.specs.Prelude.{codes}
use Rattle.boot_run.specs.Views.{summary_in}
use Rattle.report_text.proofs.ObjectLemmas.{object_parts}
use Rattle.ntboot_cli.specs.Made.{summary_fields}
use Rattle.ntboot_cli.proofs.making.push_summary.Goals as goal

pub returns : goal.returns
returns c =
    object_parts c.close_object.result c.args.out.now.items c.open_object.new.out.items
    c.push_fields.new.out.items c.close_object.new.out.items (codes "made")
    (summary_fields c.args.count (summary_in c.args.summary.now))
    c.in_ok-open_object.ensures c.in_ok-push_fields.ensures c.close_object.ensures
