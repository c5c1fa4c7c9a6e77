use Rattle.std.proofs.Common.{◌≡◌, map, sym, ◌∙◌, ap, subst, Err}
use Rattle.std.specs.Prelude.{IfOk}
use Rattle.hive_model.specs.Edit.{edited}
use Rattle.hive_model.specs.Tree.{Tree}
use Rattle.reg_tree.specs.Makes.{Makes, step_of}
use Rattle.reg_tree.specs.declared.stop.EditStop.{EditStop}
use Rattle.hive_alt.proofs.EditingLemmas.{edited_fits}
use Rattle.hive_alt.specs.Changes.{Change}
use Rattle.hive_alt.specs.Plans.{IsPlanOf}
use Rattle.hive_alt.proofs.ChangeLemmas.{plan_made, plan_full}
use Rattle.hive_alt.proofs.planning.plan_edit.Goals as goal
use Rattle.hive_alt.proofs.planning.plan_edit.Goals.{In_ok-work}

-- an edit makes of the tree what it makes of its copy
as_copied : (c : In_ok-work)
    → edited c.args.version c.args.tree.now (map step_of c.in_ok-steps.steps)
    ≡ edited c.args.version c.in_ok-work.work (map step_of c.in_ok-steps.steps)
as_copied c =
    sym (ap (λ (t : Tree). edited c.args.version t (map step_of c.in_ok-steps.steps)) c.in_ok-work.ensures)

pub plan_pack-requires-clause-room : goal.plan_pack-requires-clause-room
plan_pack-requires-clause-room c =
    edited_fits c.args.version c.in_ok-work.work c.apply.new.self (map step_of c.in_ok-steps.steps) c.in-Ok.ensures.made

pub returns-in-Ok-clause-plan : goal.returns-in-Ok-clause-plan
returns-in-Ok-clause-plan c =
    subst (λ (x : Change). IfOk c.plan_pack.result (IsPlanOf c.args.version x))
    (sym (plan_made c.args.version c.args.tree.now c.apply.new.self c.args.number (map step_of c.in_ok-steps.steps)
    c.requires.there c.in_ok-steps.ensures
    (as_copied (goal.at.returns-in-Ok-clause-plan c).In_ok-work ∙ c.in-Ok.ensures.made)))
    c.plan_pack.ensures.plan

pub returns-in-Err-Full-clause-plan : goal.returns-in-Err-Full-clause-plan
returns-in-Err-Full-clause-plan c =
    let steps = map step_of c.in_ok-steps.steps in
    let work = c.in_ok-work.work in
    let makes = subst (λ (s : EditStop). Makes work c.apply.new.self (Err s) (edited c.args.version work steps))
    c.in-Err-Full.field-0-is c.in-Err-Full.ensures.made in
    plan_full c.args.version c.args.tree.now c.args.number steps c.requires.there c.in_ok-steps.ensures
    (as_copied (goal.at.returns-in-Err-Full-clause-plan c).In_ok-work ∙ makes.0)
