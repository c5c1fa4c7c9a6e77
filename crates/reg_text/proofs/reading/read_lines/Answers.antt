use Rattle.std.proofs.Common.{map, sym, ◌∙◌}
use Rattle.std.specs.Str.Lines.{lines}
use Rattle.std.proofs.lemmas.Bool.{eqb-true}
use Rattle.std.proofs.lemmas.Result.{err_from_is_err_and}
use Rattle.reg_tree.specs.Makes.{step_of}
use Rattle.reg_text.specs.Reading.{first_state, lines_said}
use Rattle.reg_text.proofs.ReadLemmas.{goes_on, refuses, ends}
use Rattle.reg_text.proofs.reading.read_lines.Goals as goal

pub returns-in_err-state : goal.returns-in_err-state
returns-in_err-state c =
    let p = err_from_is_err_and c.from_residual.result c.from_residual.ensures.1 in
    rw (p.1, p.2) (refuses c.in_err-state.field-0.0 (map step_of c.loop-rest.steps)
    c.loop-rest.state c.loop-rest.rest.now c.first_line.result.0.now
    c.first_line.result.1.now (lines_said first_state (lines c.args.body.now))
    c.first_line.ensures.first c.in_err-state.ensures.refused c.loop-rest.invariant)

pub loop-rest-preserved : goal.loop-rest-preserved
loop-rest-preserved c =
    goes_on c.loop-rest.steps c.take_line.new.steps c.loop-rest.state c.in_ok-state.state c.loop-rest.rest.now
    c.first_line.result.0.now
    c.first_line.result.1.now (lines_said first_state (lines c.args.body.now))
    c.first_line.ensures.first c.in_ok-state.ensures.taken c.loop-rest.invariant

pub returns : goal.returns
returns c =
    ends (map step_of c.loop-rest.steps) c.loop-rest.state c.loop-rest.rest.now
    (lines_said first_state (lines c.args.body.now))
    (eqb-true _ _ (sym c.is_empty.ensures ∙ c.loop-rest-test.false)) c.loop-rest.invariant
