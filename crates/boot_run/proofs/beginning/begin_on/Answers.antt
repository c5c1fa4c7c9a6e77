use Rattle.std.proofs.Common.{sym, subst}
use Rattle.hive_model.specs.Tree.{Tree}
use Rattle.boot_run.specs.Kept.{AreRead}
use Rattle.boot_run.proofs.SetLemmas.{current_is}
use Rattle.boot_run.proofs.beginning.begin_on.Goals as goal

pub returns-clause-lists : goal.returns-clause-lists
returns-clause-lists c =
    let P : Tree → Type 0 = λ t. AreRead t c.in_ok-lists.lists in
    subst P (sym (current_is c.args.hive.now.tree c.in_ok-set.set c.args.number c.requires.taken
    c.in_ok-set.ensures.set)) (record { read = c.in_ok-lists.ensures; held = c.in_ok-set.ensures.held })
