use Rattle.hive_edit.proofs.AddStepLemmas.{refuses_step}
use Rattle.hive_edit.proofs.hive.HiveBytes.add_child_step.Goals as goal

pub returns-in-Err-clause-made : goal.returns-in-Err-clause-made
returns-in-Err-clause-made c =
    refuses_step c.args.self.now c.args.name.now c.args.key.now c.in-Err.stop c.in-Err.ensures
