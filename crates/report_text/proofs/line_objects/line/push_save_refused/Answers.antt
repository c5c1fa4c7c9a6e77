use Rattle.std.proofs.Common.{◌∙◌}
use Rattle.std.specs.Prelude.{codes}
use Rattle.start_model.specs.Lines.{save_word}
use Rattle.report_text.proofs.ObjectLemmas.{word_object}
use Rattle.report_text.proofs.line_objects.line.push_save_refused.Goals as goal

pub returns : goal.returns
returns c =
    word_object c.push_word_object.result c.args.out.now.items c.push_word_object.new.out.items (codes "save")
    (codes "refused") c.as_bytes.result.now (save_word c.args.full) (c.as_bytes.ensures.value ∙ c.save_text.ensures)
    c.push_word_object.ensures
