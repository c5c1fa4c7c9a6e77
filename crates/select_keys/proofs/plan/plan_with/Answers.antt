use Rattle.std.proofs.Common.{◌≡◌, ◌++◌, List, map, sym, ap, subst, ◌∙◌}
use Rattle.std.specs.List.{All}
use Rattle.hive_model.specs.Edit.{Step}
use Rattle.reg_tree.specs.Fitting.{Fits}
use Rattle.reg_tree.specs.Makes.{step_of}
use Rattle.start_model.specs.Sets.{deletions_of, writes_of}
use Rattle.select_keys.proofs.FitLemmas.{plan_fits}
use Rattle.select_keys.proofs.plan.plan_with.Goals as goal

pub returns-clause-fits : goal.returns-clause-fits
returns-clause-fits c = λ fits.
    let first : List Step = map step_of c.args.first in
    let writes : List Step = writes_of c.args.old c.args.new in
    let is : map step_of c.write_numbers.new.steps ≡ (first ++ deletions_of c.args.taken.now c.args.old c.args.new)
    ++ writes =
    c.in_ok-write_numbers.ensures ∙ ap (λ (s : List Step). s ++ writes) c.in_ok-delete_retired.ensures in
    let P : List Step → Type 0 = λ s. All Fits s in
    subst P (sym is) (plan_fits c.args.chosen c.args.taken.now c.args.old c.args.new first fits)
