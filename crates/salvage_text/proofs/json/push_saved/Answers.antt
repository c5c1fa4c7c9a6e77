use Rattle.std.specs.Prelude.{codes}
use Rattle.salvage_text.specs.Lines.{saved_fields}
use Rattle.salvage_text.proofs.ObjectLemmas.{ended}
use Rattle.salvage_text.proofs.json.push_saved.Goals as goal

pub returns : goal.returns
returns c =
    ended c.close_object.result c.args.out.now.items c.open_object.new.out.items c.push_saved_fields.new.out.items
    c.close_object.new.out.items (codes "saved") (saved_fields c.args.number c.args.bytes)
    c.in_ok-open_object.ensures c.in_ok-push_saved_fields.ensures c.close_object.ensures
