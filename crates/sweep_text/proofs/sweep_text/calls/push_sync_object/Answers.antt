use Rattle.std.proofs.Common.{codes, ◌∷◌}
use Rattle.report_text.specs.line_text.Objects.{Number}
use Rattle.sweep_text.specs.sweep_text.Calls.{four_fields}
use Rattle.sweep_text.proofs.ObjectLemmas.{object_of}
use Rattle.sweep_text.proofs.sweep_text.calls.push_sync_object.Goals as goal

pub returns : goal.returns
returns c =
    object_of c.close_object.result c.args.out.now.items c.open_object.new.out.items c.push_sync_fields.new.out.items
    c.close_object.new.out.items (codes "sync") ((codes "number", Number c.args.n) ∷ four_fields c.args.none c.args.others) c.in_ok-open_object.ensures
    c.in_ok-push_sync_fields.ensures c.close_object.ensures
