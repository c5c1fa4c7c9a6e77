use Rattle.std.proofs.Common.{ap, sym, ◌∙◌}
use Rattle.start_model.specs.Sets.{SelectNumbers}
use Rattle.safe_command.proofs.ReportLemmas.{default_there}
use Rattle.safe_command.proofs.report.put_default.Goals as goal

pub returns-in-Some : goal.returns-in-Some
returns-in-Some c =
    default_there c.put_start.result c.args.form c.args.root.now c.in-Some.set.now c.args.mode c.args.images
    c.number.inside.default c.args.text.now.items c.put_start.new.text.items
    (ap (λ (s : SelectNumbers). s.default) (c.number.view_is ∙ c.select_numbers.ensures)) (sym c.in-Some.ensures.exact) c.put_start.ensures
