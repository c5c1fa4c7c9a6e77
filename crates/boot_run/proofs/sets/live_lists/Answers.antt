use Rattle.std.proofs.Common.{sym, subst}
use Rattle.std.specs.Prelude.{IfOk}
use Rattle.hive_model.specs.Tree.{Tree}
use Rattle.boot_run.specs.Kept.{AreRead}
use Rattle.boot_run.proofs.SetLemmas.{current_is, read_of}
use Rattle.boot_run.proofs.sets.live_lists.Goals as goal

pub returns : goal.returns
returns c =
    let P : Tree → Type 0 = λ t. IfOk c.read.result (AreRead t) in
    subst P (sym (current_is c.args.hive.now.tree c.in_ok-set.set c.args.number c.requires c.in_ok-set.ensures.set))
    (read_of c.read.result c.in_ok-set.set c.in_ok-set.ensures.held c.read.ensures)
