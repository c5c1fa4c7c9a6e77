use Rattle.std.proofs.Common.{ap, ◌∙◌}
use Rattle.why_needs.specs.why_state.Views.{names_tried, coming_of}
use Rattle.why_needs.proofs.why_state.views.looked.Goals as goal

pub returns-clause-coming : goal.returns-clause-coming
returns-clause-coming c =
    c.in_ok-coming.ensures
    ∙ ap (coming_of c.args.run.now.set)
    (c.as_slice-2.ensures ∙ c.in_ok-tried.ensures ∙ ap names_tried c.as_slice.ensures)
