use Rattle.hive_edit.proofs.hive.HiveBytes.set_value_step.Goals as goal

pub returns-in-Err-clause-made : goal.returns-in-Err-clause-made
returns-in-Err-clause-made c = c.in-Err.ensures.refused c.args.kind
