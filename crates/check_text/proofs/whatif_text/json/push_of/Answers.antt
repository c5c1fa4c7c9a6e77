use Rattle.std.specs.Prelude.{codes}
use Rattle.check_text.specs.whatif_text.Lines.{of_fields}
use Rattle.check_text.proofs.ObjectLemmas.{object_of}
use Rattle.check_text.proofs.whatif_text.json.push_of.Goals as goal

pub returns : goal.returns
returns c =
    object_of c.close_object.result c.args.out.now.items c.open_object.new.out.items c.push_of_fields.new.out.items
    c.close_object.new.out.items (codes "of") (of_fields c.args.state c.args.name.now) c.in_ok-open_object.ensures
    c.in_ok-push_of_fields.ensures c.close_object.ensures
