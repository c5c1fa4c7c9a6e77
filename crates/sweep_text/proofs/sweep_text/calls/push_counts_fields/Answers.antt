use Rattle.std.proofs.Common.{codes}
use Rattle.report_text.specs.line_text.Objects.{Number}
use Rattle.sweep_text.proofs.ObjectLemmas.{four_fields}
use Rattle.sweep_text.proofs.sweep_text.calls.push_counts_fields.Goals as goal

pub returns : goal.returns
returns c =
    four_fields c.push_number_field-4.result c.args.out.now.items c.push_number_field.new.out.items
    c.push_number_field-2.new.out.items c.push_number_field-3.new.out.items c.push_number_field-4.new.out.items
    (codes "count") (Number c.args.count) (codes "before") (Number c.args.before) (codes "after") (Number c.args.after)
    (codes "neither") (Number 0)
    c.in_ok-push_number_field.ensures c.in_ok-push_number_field-2.ensures c.in_ok-push_number_field-3.ensures
    c.push_number_field-4.ensures
