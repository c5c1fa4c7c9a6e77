use Rattle.std.specs.Prelude.{codes}
use Rattle.report_text.specs.line_text.Objects.{Text}
use Rattle.report_text.proofs.ObjectLemmas.{fields_of_two}
use Rattle.text_commands.proofs.exporting.push_no_key_fields.Goals as goal

pub returns : goal.returns
returns c =
    fields_of_two c.push_word_field-2.result c.args.out.now.items c.push_word_field.new.out.items
    c.push_word_field-2.new.out.items (codes "command") (codes "word") (Text (codes "export")) (Text (codes "no-key"))
    c.in_ok-push_word_field.ensures c.push_word_field-2.ensures
