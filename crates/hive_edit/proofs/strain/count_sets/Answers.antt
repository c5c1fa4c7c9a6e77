use Rattle.std.proofs.Common.{◌≡◌, ℕ, suc, ◌+◌, ◌++◌, [], ◌∷◌, map, take, sym, ap, ◌∙◌, arith}
use Rattle.std.proofs.lemmas.List.Sums.{sum_by_push}
use Rattle.reg_tree.specs.Makes.{step_of}
use Rattle.hive_edit.specs.Steps.{sets_value, values_set}
use Rattle.hive_edit.proofs.SteppedLemmas.{map_more}
use Rattle.hive_edit.proofs.strain.count_sets.Goals as goal

pub loop-step-preserved : goal.loop-step-preserved
loop-step-preserved c =
    let xs = c.args.steps.now in
    let k = c.loop-step.step-index in
    let item = c.step-item.result in
    let next : suc k ≡ k + 1 = omega arith in
    let more : map step_of (take (k + 1) xs) ≡ map step_of (take k xs) ++ step_of item ∷ [] =
    ap (λ (n : ℕ). map step_of (take n xs)) (sym next)
    ∙ map_more step_of xs k item c.loop-step-test.true c.step-item.is in
    let all : values_set (map step_of (take (k + 1) xs))
    ≡ values_set (map step_of (take k xs)) + sets_value (step_of item) =
    ap values_set more ∙ sum_by_push sets_value (map step_of (take k xs)) (step_of item) in
    omega (arith, all, c.loop-step.invariant, c.sets_value-one.ensures, c.saturating_add-sets.ensures)
