use Rattle.std.specs.Prelude.{[], ◌∷◌, codes}
use Rattle.std.proofs.Common.{refl}
use Rattle.report_text.specs.line_text.Objects.{Text}
use Rattle.control_command.proofs.ReportLemmas.{fields_on}
use Rattle.control_command.proofs.printing.push_stop_fields.Goals as goal

pub returns-in-NoService-clause-text : goal.returns-in-NoService-clause-text
returns-in-NoService-clause-text c =
    fields_on c.push_word.result c.args.stop.now _ ((codes "word", Text (codes "no-service")) ∷ []) c.args.out.now.items
    c.push_word.new.out.items c.in-NoService.is refl c.push_word.ensures

pub returns-in-NeedDisabled-clause-text : goal.returns-in-NeedDisabled-clause-text
returns-in-NeedDisabled-clause-text c =
    fields_on c.push_other-in-NeedDisabled.result c.args.stop.now _
    ((codes "word", Text (codes "need-disabled")) ∷ (codes "other", Text c.in-NeedDisabled.name) ∷ [])
    c.args.out.now.items c.push_other-in-NeedDisabled.new.out.items c.in-NeedDisabled.is refl
    c.push_other-in-NeedDisabled.ensures
