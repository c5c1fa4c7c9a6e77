use Rattle.std.proofs.Common.{arith, sym, ◌∙◌}
use Rattle.std.specs.Str.Lines.{lines}
use Rattle.std.proofs.lemmas.Bool.{eqb-true}
use Rattle.std.proofs.lemmas.Result.{err_from_is_err_and}
use Rattle.boot_script.specs.sweep_script.Sweep.{no_parts, parts_from}
use Rattle.boot_script.proofs.SweepLemmas.{goes_on, refuses, ends, few_line}
use Rattle.boot_script.proofs.sweep_script.reading.read_lines.Goals as goal

pub returns-in_err-take_line-clause-refused : goal.returns-in_err-take_line-clause-refused
returns-in_err-take_line-clause-refused c =
    let p = err_from_is_err_and c.from_residual.result c.from_residual.ensures.1 in
    rw (p.1, p.2) (refuses c.in_err-take_line.field-0.0 c.loop-rest.number c.loop-rest.parts c.loop-rest.rest.now
    c.first_line.result.0.now c.first_line.result.1.now (parts_from 1 no_parts (lines c.args.text.now))
    c.first_line.ensures.first c.in_err-take_line.ensures.refused c.loop-rest.invariant.so_far)

pub loop-rest-preserved : goal.loop-rest-preserved
loop-rest-preserved c = record {
  so_far = goes_on c.loop-rest.number c.loop-rest.parts c.take_line.new.parts c.loop-rest.rest.now c.first_line.result.0.now
      c.first_line.result.1.now (parts_from 1 no_parts (lines c.args.text.now)) c.first_line.ensures.first
      c.in_ok-take_line.ensures.taken c.loop-rest.invariant.so_far;
  numbers = omega (arith, c.first_line.ensures.shorter);
  few = few_line c.loop-rest.number c.loop-rest.parts c.take_line.new.parts c.first_line.result.0.now
      c.in_ok-take_line.ensures.taken c.loop-rest.invariant.few;
}

pub returns-clause-taken : goal.returns-clause-taken
returns-clause-taken c =
    ends c.loop-rest.number c.loop-rest.parts c.loop-rest.rest.now (parts_from 1 no_parts (lines c.args.text.now))
    (eqb-true _ _ (sym c.is_empty.ensures ∙ c.loop-rest-test.false)) c.loop-rest.invariant.so_far
