use Rattle.std.proofs.Common.{refl}
use Rattle.hive_model.specs.Edit.{delete_key, no_key}
use Rattle.hive_edit.proofs.DeleteLemmas.{edit_refused}
use Rattle.hive_edit.proofs.hive.HiveBytes.delete_key.Goals as goal

pub returns-in-None-clause-made : goal.returns-in-None-clause-made
returns-in-None-clause-made c = (
  edit_refused c.args.self.now.version c.args.self.now.tree (delete_key c.args.path.now) no_key c.in-None.ensures.step,
  refl,
)
