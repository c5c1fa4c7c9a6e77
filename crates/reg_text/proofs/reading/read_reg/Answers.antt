use Rattle.reg_text.proofs.FitLemmas.{read_fits}
use Rattle.reg_text.proofs.reading.read_reg.Goals as goal

pub returns-clause-fits : goal.returns-clause-fits
returns-clause-fits c = read_fits c.read_text.result c.args.text.now c.read_text.ensures.exact
