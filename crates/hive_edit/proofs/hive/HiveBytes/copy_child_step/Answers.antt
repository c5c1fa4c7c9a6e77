use Rattle.std.proofs.Common.{ℕ, List, sym, ap, ◌∙◌}
use Rattle.hive_model.specs.Tree.{find_key}
use Rattle.hive_edit.proofs.CopyStepLemmas.{key_found, refuses_copy}
use Rattle.hive_edit.proofs.hive.HiveBytes.copy_child_step.Goals as goal

pub returns-in-Err-clause-made : goal.returns-in-Err-clause-made
returns-in-Err-clause-made c = refuses_copy c.args.self.now c.args.from.now c.args.to.now c.in-Some.key c.in-Err.stop
    (key_found c.args.self.now c.args.from.now c.in-Some.key
    (ap (λ (p : List (List ℕ)). find_key p c.args.self.now.tree) (sym c.in_ok-path.ensures)
    ∙ sym c.in_ok-subtree.ensures.found ∙ c.in-Some.is))
    c.in-Err.ensures
