use Rattle.std.proofs.Common.{map}
use Rattle.reg_tree.specs.Makes.{step_of}
use Rattle.import_steps.proofs.LeftLemmas.{left_fit}
use Rattle.import_steps.proofs.left.left_steps.Goals as goal

pub returns-clause-fits : goal.returns-clause-fits
returns-clause-fits c = left_fit c.args.tree.now (map step_of c.args.steps) c.judge_all.result c.judge_all.ensures
