use Rattle.std.proofs.Common.{false}
use Rattle.std.proofs.lemmas.Result.{err_from_is_err_and}
use Rattle.reg_text.specs.Quotes.{quoted_from}
use Rattle.reg_text.proofs.QuoteLemmas.{fails, ends, goes_on}
use Rattle.reg_text.proofs.quotes.quoted.Goals as goal

pub returns-in_err-unit : goal.returns-in_err-unit
returns-in_err-unit c =
    let p = err_from_is_err_and c.from_residual.result c.from_residual.ensures.1 in
    rw (p.1, p.2) (fails c.units.made c.units.rest.now c.in_err-unit.field-0.0 (quoted_from false c.args.text.now)
    c.in_err-unit.ensures.exact c.units.invariant)

pub returns-in_default : goal.returns-in_default
returns-in_default c =
    ends c.units.made c.units.rest.now c.in_ok-unit.more.now (quoted_from false c.args.text.now)
    (rw c.in_default.is at c.in_ok-unit.ensures.exact)
    c.units.invariant

pub units-preserved : goal.units-preserved
units-preserved c =
    rw c.in_ok-push.ensures.ok
    (goes_on c.units.made c.units.rest.now c.in_ok-unit.more.now c.in-Some.unit (quoted_from false c.args.text.now)
    (rw c.in-Some.is at c.in_ok-unit.ensures.exact) c.units.invariant)
