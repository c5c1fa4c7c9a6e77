use Rattle.std.proofs.Common.{◌≡◌, map, sym, ap, ◌∙◌}
use Rattle.std.proofs.lemmas.Result.{err_from_is_err_and}
use Rattle.hive_model.specs.Bins.{look_up}
use Rattle.reg_tree.specs.Makes.{step_of}
use Rattle.hive_edit.specs.Hive.{HiveCells}
use Rattle.hive_edit.proofs.HiveLemmas.{root_there, no_fault_there, read_again}
use Rattle.hive_edit.proofs.EditLemmas.{edited_fits}
use Rattle.hive_edit.proofs.AnewLemmas.{a_tree, both, edit_of, refusal_of_edit, memory_is_free}
use Rattle.hive_edit.proofs.hive.HiveBytes.packed_anew.Goals as goal
use Rattle.hive_edit.proofs.hive.HiveBytes.packed_anew.Goals.{In-Ok}

pub unreachable-requires : goal.unreachable-requires
unreachable-requires c =
    let i = c.self.inside in
    no_fault_there (look_up i.version c.cells.result.now) i.root c.in-Err-Fault.field-0-0
    (root_there i.cells.bins c.cells.result.now i.root i.version i.bulk c.self.invariant c.cells.ensures)
    (rw c.in-Err-Fault.field-0-is at c.in-Err-Fault.ensures.exact)

read : (c : In-Ok) → c.in-Ok.tree ≡ c.args.self.now.tree
read c =
    let i = c.self.inside in
    read_again i.cells c.cells.result.now i.root i.version i.bulk c.args.self.now c.in-Ok.tree c.self.invariant
    c.cells.ensures c.self.view_is c.in-Ok.ensures.exact.0

pub returns-in_err-apply-clause-made : goal.returns-in_err-apply-clause-made
returns-in_err-apply-clause-made c =
    let i = c.self.inside in
    let p = err_from_is_err_and c.from_residual.result c.from_residual.ensures.1 in
    rw (p.1, p.2)
    (refusal_of_edit i.version c.args.self.now.version c.in-Ok.tree c.args.self.now.tree (map step_of c.args.steps)
    c.in_err-apply.field-0.0
    (ap (λ (h : HiveCells). h.version) c.self.view_is) (read (goal.at.returns-in_err-apply-clause-made c).In-Ok)
    c.in_err-apply.ensures.made.0)

pub of_packed-requires-clause-room : goal.of_packed-requires-clause-room
of_packed-requires-clause-room c =
    edited_fits c.self.inside.version c.in-Ok.tree c.apply.new.tree (map step_of c.args.steps)
    c.in_ok-apply.ensures.made

pub returns-clause-made : goal.returns-clause-made
returns-clause-made c =
    let i = c.self.inside in
    both c.of_packed.result _ _ _ _
    (λ h e. edit_of i.version c.args.self.now.version c.in-Ok.tree c.args.self.now.tree h.tree
    (map step_of c.args.steps)
    (ap (λ (g : HiveCells). g.version) c.self.view_is) (read (goal.at.returns-clause-made c).In-Ok)
    (c.in_ok-apply.ensures.made ∙ ap a_tree (sym e)))
    (λ stop m. memory_is_free _ stop m) c.of_packed.ensures.tree c.of_packed.ensures.memory
