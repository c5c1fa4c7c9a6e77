use Rattle.std.proofs.Common.{ap, ◌∙◌}
use Rattle.std.specs.Prelude.{position}
use Rattle.std.specs.Option.{is_some}
use Rattle.nt_bytes.specs.Folding.{folds_same}
use Rattle.service_control.proofs.StepLemmas.{some_placed}
use Rattle.service_control.proofs.needed.has.Goals as goal

pub returns : goal.returns
returns c =
    c.is_some.ensures
    ∙ ap is_some (c.place_of.ensures.place ∙ ap (λ n. position (folds_same n) c.args.index.now) c.as_slice.ensures)
    ∙ some_placed c.args.index.now c.args.name.now
