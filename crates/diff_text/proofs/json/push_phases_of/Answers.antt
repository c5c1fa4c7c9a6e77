use Rattle.std.proofs.Common.{[]}
use Rattle.std.specs.Prelude.{codes}
use Rattle.diff_text.specs.Objects.{phases_fields, text_field}
use Rattle.diff_text.proofs.Fields.{more_fields}
use Rattle.diff_text.proofs.json.push_phases_of.Goals as goal

pub returns : goal.returns
returns c =
    more_fields c.push_text.result c.args.out.now.items c.push_phases.new.out.items c.push_text.new.out.items
    (phases_fields c.args.first c.args.second []) (text_field (codes "name") c.args.name.now [])
    c.in_ok-push_phases.ensures c.push_text.ensures
