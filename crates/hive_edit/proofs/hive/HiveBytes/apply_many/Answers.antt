use Rattle.std.proofs.Common.{◌≡◌, List, map, ap, ◌∙◌, arith}
use Rattle.std.specs.Prelude.{min}
use Rattle.reg_tree.specs.declared.steps.TreeStep.{TreeStep}
use Rattle.reg_tree.specs.Makes.{step_of}
use Rattle.hive_edit.specs.Steps.{values_set}
use Rattle.hive_edit.proofs.SteppedLemmas.{names_anew, packed_for_room}
use Rattle.hive_edit.proofs.StrainedLemmas.{sets_strained}
use Rattle.hive_edit.proofs.hive.HiveBytes.apply_many.Goals as goal

pub returns-then-sets-gt-MOST_PAGES-clause-cells : goal.returns-then-sets-gt-MOST_PAGES-clause-cells
returns-then-sets-gt-MOST_PAGES-clause-cells c =
    let h = c.args.self.now in
    let steps = map step_of c.args.steps in
    let counted : c.count_sets-sets.result ≡ min (values_set steps) 18446744073709551615 =
    c.count_sets-sets.ensures
    ∙ ap (λ (l : List TreeStep). min (values_set (map step_of l)) 18446744073709551615) c.as_slice.ensures in
    packed_for_room h c.apply_anew.new.self steps c.apply_anew.result _ c.apply_anew.ensures.made
    c.apply_anew.ensures.anew (sets_strained h steps (omega (arith, counted, c.if-sets-gt-MOST_PAGES.true)))

pub returns-then-sets-gt-MOST_PAGES-clause-parents : goal.returns-then-sets-gt-MOST_PAGES-clause-parents
returns-then-sets-gt-MOST_PAGES-clause-parents c =
    names_anew c.args.self.now c.apply_anew.new.self c.apply_anew.result c.apply_anew.ensures.anew
