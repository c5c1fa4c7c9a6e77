use Rattle.std.proofs.Common.{List, map, sym, ap, ◌∙◌}
use Rattle.std.proofs.lemmas.Bool.{leb-true, le-leb}
use Rattle.hive_model.specs.Edit.{edited}
use Rattle.reg_tree.specs.declared.steps.TreeStep.{TreeStep}
use Rattle.reg_tree.specs.Makes.{step_of}
use Rattle.hive_store.proofs.LastLemmas.{none_left, one_left, no_items, one_item}
use Rattle.hive_store.proofs.same.keeps.Goals as goal

pub returns-in-empty-clause-same : goal.returns-in-empty-clause-same
returns-in-empty-clause-same c =
    let by = λ (l : List TreeStep). edited c.args.cells.now.version c.args.cells.now.tree (map step_of l) in
    none_left c.args.cells.now.version c.args.cells.now.tree (map step_of c.args.steps.now) c.bulk.result _
    (sym (ap by c.as_slice.ensures) ∙ c.in_ok-rest.ensures.same ∙ ap by (no_items _ c.in-empty.len_below)) c.bulk.ensures
    (leb-true c.bulk.result 16773120, le-leb c.bulk.result 16773120)

pub returns-in-len1-clause-same : goal.returns-in-len1-clause-same
returns-in-len1-clause-same c =
    let by = λ (l : List TreeStep). edited c.args.cells.now.version c.args.cells.now.tree (map step_of l) in
    let x = one_item c.in_ok-rest.rest.now c.in-len1.len_at_least c.in-len1.len_below in
    one_left c.args.cells.now.version c.args.cells.now.tree (map step_of c.args.steps.now) (step_of x.0)
    (sym (ap by c.as_slice.ensures) ∙ c.in_ok-rest.ensures.same ∙ ap by x.1) (c.in_ok-rest.ensures.changed x.0 x.1)
