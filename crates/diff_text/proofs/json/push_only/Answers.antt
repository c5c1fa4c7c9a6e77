use Rattle.diff_text.specs.Objects.{side_field, settings_fields, image_fields}
use Rattle.diff_text.proofs.Fields.{more_fields}
use Rattle.std.proofs.Common.{[]}
use Rattle.diff_text.proofs.json.push_only.Goals as goal

pub returns : goal.returns
returns c =
    more_fields c.push_image.result c.args.out.now.items c.push_entry.new.out.items c.push_image.new.out.items
    (side_field c.args.side (settings_fields c.args.start c.args.kind c.args.control []))
    (image_fields c.args.image.now c.args.name.now) c.in_ok-push_entry.ensures c.push_image.ensures
