use Rattle.std.proofs.lemmas.Result.{err_from_is_err_and}
use Rattle.reg_text.specs.Digits.{pairs_of}
use Rattle.reg_text.proofs.PairLemmas.{fails, stops, ends, goes_on}
use Rattle.reg_text.proofs.digits.pairs.Goals as goal

pub returns-in_err-byte : goal.returns-in_err-byte
returns-in_err-byte c =
    let p = err_from_is_err_and c.from_residual.result c.from_residual.ensures.1 in
    rw (p.1, p.2) (fails c.pairs.bytes c.pairs.rest.now c.in_err-byte.field-0.0 (pairs_of c.args.text.now)
    c.in_err-byte.ensures.exact c.pairs.invariant)

pub returns-in_err-more : goal.returns-in_err-more
returns-in_err-more c =
    let p = err_from_is_err_and c.from_residual-in_err-more.result c.from_residual-in_err-more.ensures.1 in
    rw (p.1, p.2) (stops c.pairs.bytes c.pairs.rest.now c.in_ok-byte.after.now c.in_ok-byte.byte c.in_err-more.field-0.0
    (pairs_of c.args.text.now)
    c.in_ok-byte.ensures.exact c.in_err-more.ensures.exact c.pairs.invariant)

pub returns-in_default : goal.returns-in_default
returns-in_default c =
    rw c.in_ok-push.ensures.ok
    (ends c.pairs.bytes c.pairs.rest.now c.in_ok-byte.after.now c.in_ok-byte.byte (pairs_of c.args.text.now)
    c.in_ok-byte.ensures.exact (rw c.in_default.is at c.in_ok-more.ensures.exact) c.pairs.invariant)

pub pairs-preserved : goal.pairs-preserved
pairs-preserved c =
    rw c.in_ok-push.ensures.ok
    (goes_on c.pairs.bytes c.pairs.rest.now c.in_ok-byte.after.now c.in-Some.more.now c.in_ok-byte.byte
    (pairs_of c.args.text.now)
    c.in_ok-byte.ensures.exact (rw c.in-Some.is at c.in_ok-more.ensures.exact) c.pairs.invariant)
