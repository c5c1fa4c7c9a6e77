use Rattle.std.proofs.Common.{map}
use Rattle.reg_tree.specs.Makes.{step_of}
use Rattle.import_steps.proofs.SetLemmas.{made_fit}
use Rattle.import_steps.proofs.current.set_steps.Goals as goal

pub returns-clause-fits : goal.returns-clause-fits
returns-clause-fits c =
    made_fit c.as_slice.result.now (map step_of c.args.steps) c.steps_in.result c.steps_in.ensures
