use Rattle.std.proofs.Common.{arith, sym, ◌∙◌}
use Rattle.std.specs.Str.Lines.{lines}
use Rattle.std.proofs.lemmas.Bool.{eqb-true}
use Rattle.std.proofs.lemmas.Result.{err_from_is_err_and}
use Rattle.boot_script.specs.boot_script.Script.{events_from}
use Rattle.boot_script.proofs.ScriptLemmas.{goes_on, refuses, ends}
use Rattle.boot_script.proofs.boot_script.script.events.Goals as goal

pub returns-in_err-starts : goal.returns-in_err-starts
returns-in_err-starts c =
    let p = err_from_is_err_and c.from_residual.result c.from_residual.ensures.1 in
    rw (p.1, p.2) (refuses c.in_err-starts.field-0.0 c.loop-rest.events c.loop-rest.number c.loop-rest.starts
    c.loop-rest.rest.now c.first_line.result.0.now c.first_line.result.1.now
    (events_from 1 0 (lines c.args.text.now))
    c.first_line.ensures.first c.in_err-starts.ensures.refused c.loop-rest.invariant.so_far)

pub loop-rest-preserved : goal.loop-rest-preserved
loop-rest-preserved c = record {
  so_far = goes_on c.loop-rest.events c.take_line.new.events c.loop-rest.number c.loop-rest.starts c.in_ok-starts.starts
      c.loop-rest.rest.now c.first_line.result.0.now c.first_line.result.1.now (events_from 1 0 (lines c.args.text.now))
      c.first_line.ensures.first c.in_ok-starts.ensures.taken c.loop-rest.invariant.so_far;
  numbers = omega (arith, c.first_line.ensures.shorter);
  few = c.in_ok-starts.ensures.taken.few;
}

pub returns : goal.returns
returns c = ends c.loop-rest.events c.loop-rest.number c.loop-rest.starts c.loop-rest.rest.now
    (events_from 1 0 (lines c.args.text.now)) (eqb-true _ _ (sym c.is_empty.ensures ∙ c.loop-rest-test.false))
    c.loop-rest.invariant.so_far
