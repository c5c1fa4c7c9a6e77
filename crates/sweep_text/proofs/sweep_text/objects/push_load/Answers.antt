use Rattle.std.proofs.Common.{codes, ◌++◌}
use Rattle.report_text.specs.line_text.Objects.{Text, field_text}
use Rattle.sweep_text.specs.sweep_text.Words.{digits_field, word_of, after_word}
use Rattle.sweep_text.proofs.ObjectLemmas.{object_with}
use Rattle.sweep_text.proofs.sweep_text.objects.push_load.Goals as goal

pub returns : goal.returns
returns c =
    object_with c.close_object.result c.args.out.now.items c.open_object.new.out.items c.push_load_fields.new.out.items
    c.close_object.new.out.items (codes "load")
    (digits_field (codes "sequence") (word_of c.args.more.now) ++ field_text (codes "state") (Text (after_word c.args.more.now)))
    c.in_ok-open_object.ensures c.in_ok-push_load_fields.ensures c.close_object.ensures
