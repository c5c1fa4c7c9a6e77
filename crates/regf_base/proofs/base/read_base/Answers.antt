use Rattle.std.proofs.Common.{rules}
use Rattle.hive_model.specs.Base.{base_of}
use Rattle.regf_base.proofs.base.read_base.Goals as goal

pub returns-in_err-check : goal.returns-in_err-check
unfolding base_of
returns-in_err-check c = rw c.in_err-check.ensures.err (search rules)

pub returns : goal.returns
unfolding base_of
returns c = rw (c.in_ok-check.ensures.ok, c.fields.ensures)
