use Rattle.std.proofs.Common.{arith, sym, ◌∙◌}
use Rattle.std.specs.Str.Lines.{lines}
use Rattle.std.proofs.lemmas.Bool.{eqb-true}
use Rattle.std.proofs.lemmas.Result.{err_from_is_err_and}
use Rattle.control_command.specs.Commands.{commands_from}
use Rattle.control_command.proofs.LineLemmas.{goes_on, refuses, ends}
use Rattle.control_command.proofs.reading.commands.Goals as goal

pub returns-in_err-take_line : goal.returns-in_err-take_line
returns-in_err-take_line c =
    let p = err_from_is_err_and c.from_residual.result c.from_residual.ensures.1 in
    rw (p.1, p.2) (refuses c.in_err-take_line.field-0.0 c.loop-rest.commands c.loop-rest.number c.loop-rest.rest.now
    c.first_line.result.0.now c.first_line.result.1.now (commands_from 1 (lines c.args.text.now))
    c.first_line.ensures.first c.in_err-take_line.ensures.refused c.loop-rest.invariant.so_far)

pub loop-rest-preserved : goal.loop-rest-preserved
loop-rest-preserved c = record {
  so_far = goes_on c.loop-rest.commands c.take_line.new.commands c.loop-rest.number c.loop-rest.rest.now
      c.first_line.result.0.now c.first_line.result.1.now (commands_from 1 (lines c.args.text.now))
      c.first_line.ensures.first c.in_ok-take_line.ensures.taken c.loop-rest.invariant.so_far;
  numbers = omega (arith, c.first_line.ensures.shorter);
}

pub returns : goal.returns
returns c = ends c.loop-rest.commands c.loop-rest.number c.loop-rest.rest.now (commands_from 1 (lines c.args.text.now))
    (eqb-true _ _ (sym c.is_empty.ensures ∙ c.loop-rest-test.false)) c.loop-rest.invariant.so_far
