use Rattle.std.proofs.Common.{codes}
use Rattle.sweep_text.specs.sweep_text.Calls.{write_fields}
use Rattle.sweep_text.proofs.ObjectLemmas.{object_of}
use Rattle.sweep_text.proofs.sweep_text.calls.push_write_object.Goals as goal

pub returns : goal.returns
returns c =
    object_of c.close_object.result c.args.out.now.items c.open_object.new.out.items c.push_write_fields.new.out.items
    c.close_object.new.out.items (codes "write") (write_fields c.args.n c.args.file.now c.args.sector c.args.after) c.in_ok-open_object.ensures
    c.in_ok-push_write_fields.ensures c.close_object.ensures
