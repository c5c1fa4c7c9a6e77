use Rattle.std.proofs.Common.{ap, ◌∙◌}
use Rattle.std.specs.Prelude.{position}
use Rattle.std.specs.Option.{is_some}
use Rattle.nt_bytes.specs.Folding.{folds_same}
use Rattle.boot_phases.proofs.TriedLemmas.{some_place}
use Rattle.service_check.proofs.names.has_name.Goals as goal

pub returns : goal.returns
returns c =
    c.is_some.ensures
    ∙ ap is_some (c.place_of.ensures.place ∙ ap (λ n. position (folds_same n) c.args.places.now) c.as_slice.ensures)
    ∙ some_place (folds_same c.args.name.now) c.args.places.now
