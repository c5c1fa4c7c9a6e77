use Rattle.quiet_run.proofs.EditLemmas.{same_as}
use Rattle.quiet_run.proofs.editing.is_same.Goals as goal

pub returns : goal.returns
returns c = same_as c.same.result c.args.a.now c.args.b.now c.same.ensures
