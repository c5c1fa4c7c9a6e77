use Rattle.std.proofs.Common.{not, ◌∙◌, map}
use Rattle.nt_bytes.specs.Folding.{folds_same}
use Rattle.start_model.specs.Entries.{Entry}
use Rattle.failure_effects.proofs.NearLemmas.{rest_first}
use Rattle.failure_effects.proofs.leaning.first_walk.Goals as goal

pub returns-clause-rest : goal.returns-clause-rest
returns-clause-rest c =
    rest_first c.args.needers.now (λ (e : Entry). not (folds_same c.args.name.now e.name)) c.in_ok-left.left.rest.items
    (c.in_ok-left.ensures.rest ∙ c.in_ok-others.ensures
    ∙ (λ i. map (λ (e : Entry). not (folds_same (c.as_slice-3.ensures i) e.name)) (c.as_slice-2.ensures i)))
