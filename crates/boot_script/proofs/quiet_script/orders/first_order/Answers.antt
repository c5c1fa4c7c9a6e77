use Rattle.std.proofs.Common.{sym, ◌∙◌, arith}
use Rattle.std.specs.Str.Lines.{lines}
use Rattle.std.proofs.lemmas.Bool.{eqb-true}
use Rattle.boot_script.specs.quiet_script.Quiet.{first_order}
use Rattle.boot_script.proofs.QuietLemmas.{found_here, found_after, none_left}
use Rattle.boot_script.proofs.quiet_script.orders.first_order.Goals as goal

pub returns-then-branch : goal.returns-then-branch
returns-then-branch c =
    found_here c.loop-rest.number c.loop-rest.rest.now c.first_line.result.0.now c.first_line.result.1.now
    (first_order 1 (lines c.args.text.now)) c.first_line.ensures.first
    (sym c.in_ok-is_order.ensures ∙ c.if-branch.true) c.loop-rest.invariant.so_far

pub loop-rest-preserved : goal.loop-rest-preserved
loop-rest-preserved c = record {
  so_far = found_after c.loop-rest.number c.loop-rest.rest.now c.first_line.result.0.now c.first_line.result.1.now
      (first_order 1 (lines c.args.text.now)) c.first_line.ensures.first
      (sym c.in_ok-is_order.ensures ∙ c.if-branch.false) c.loop-rest.invariant.so_far;
  numbers = omega (arith, c.first_line.ensures.shorter, c.loop-rest.invariant.numbers);
}

pub returns : goal.returns
returns c = none_left c.loop-rest.number c.loop-rest.rest.now (first_order 1 (lines c.args.text.now))
    (eqb-true _ _ (sym c.is_empty.ensures ∙ c.loop-rest-test.false)) c.loop-rest.invariant.so_far
