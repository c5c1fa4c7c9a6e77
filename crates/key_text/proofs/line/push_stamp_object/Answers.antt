use Rattle.std.specs.Prelude.{codes}
use Rattle.report_text.specs.line_text.Objects.{Text}
use Rattle.key_text.specs.Stamps.{stamp_text}
use Rattle.key_text.proofs.ObjectLemmas.{object_of_one}
use Rattle.key_text.proofs.line.push_stamp_object.Goals as goal

pub returns : goal.returns
returns c =
    object_of_one c.close_object.result c.args.out.now.items c.open_object.new.out.items
    c.push_moment_field.new.out.items c.close_object.new.out.items (codes "stamp") (codes "stamp")
    (Text (stamp_text c.args.stamp)) c.in_ok-open_object.ensures c.in_ok-push_moment_field.ensures
    c.close_object.ensures
