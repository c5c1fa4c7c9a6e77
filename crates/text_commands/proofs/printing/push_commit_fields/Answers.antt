use Rattle.std.specs.Prelude.{codes}
use Rattle.report_text.specs.line_text.Objects.{Text, field_text}
use Rattle.text_commands.proofs.LineLemmas.{two_fields}
use Rattle.text_commands.proofs.printing.push_commit_fields.Goals as goal

pub returns : goal.returns
returns c =
    two_fields c.push_number_field.result c.args.out.now.items c.push_word_field.new.out.items
    c.push_number_field.new.out.items (field_text (codes "what") (Text (codes "import"))) (codes "sequence")
    c.from.result c.args.number c.from.ensures c.in_ok-push_word_field.ensures c.push_number_field.ensures
