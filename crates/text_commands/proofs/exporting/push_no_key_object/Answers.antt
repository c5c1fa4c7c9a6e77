use Rattle.std.specs.Prelude.{codes}
use Rattle.report_text.proofs.ObjectLemmas.{object_parts}
use Rattle.text_commands.specs.Exported.{no_key_fields}
use Rattle.text_commands.proofs.exporting.push_no_key_object.Goals as goal

pub returns : goal.returns
returns c =
    object_parts c.close_object.result c.args.out.now.items c.open_object.new.out.items
    c.push_no_key_fields.new.out.items c.close_object.new.out.items (codes "refused") no_key_fields
    c.in_ok-open_object.ensures c.in_ok-push_no_key_fields.ensures c.close_object.ensures
