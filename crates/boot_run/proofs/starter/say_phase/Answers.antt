use Rattle.std.proofs.Common.{◌≡◌, ◌∙◌, ap, sym, [], ◌∷◌, map, Option, Some}
use Rattle.std.specs.Option.{option_map_or}
use Rattle.start_model.specs.Entries.{Done}
use Rattle.report_words.specs.declared.line.Line.TheVariants.{Unmet as UnmetLine}
use Rattle.start_model.specs.Machine.{Start, MachineState, unmet_in, phase_after}
use Rattle.start_model.specs.Starter.{phase_line}
use Rattle.boot_run.specs.Starts.{phase_lines}
use Rattle.boot_run.specs.Views.{told_in, told_by}
use Rattle.boot_run.proofs.StartLemmas.{says_err, says_none, says_more, says_then, tells_line}
use Rattle.boot_run.proofs.starter.say_phase.Given.{Over}
use Rattle.boot_run.proofs.starter.say_phase.Goals as goal
use Rattle.boot_run.proofs.starter.say_phase.Goals.{After-say_unmet}

-- the names that are printed are those that wait
names : (g : Over) (c : After-say_unmet g) {s : Start} → c.args.runner.now.machine.start ≡ Some s
    → c.as_slice.result.now ≡ unmet_in s
names g c is =
    c.as_slice.ensures ∙ c.in_ok-unmet.ensures.unmet ∙ ap (λ (o : Option Start). option_map_or unmet_in o []) is

pub returns-in_err-unmet-clause-tells : goal.returns-in_err-unmet-clause-tells
returns-in_err-unmet-clause-tells g c = λ s tells is.
    let x = told_in (g.H.Host.state c.args.host.now) c.args.runner.now in
    says_err c.from_residual.result c.from_residual.ensures.0 (phase_lines s)
    (told_in (g.H.Host.state c.args.host.now) c.next_phase.new.runner)
    (says_none (map UnmetLine (unmet_in s)) (phase_line (phase_after s.phase)) x)

pub returns-in_err-say_unmet-clause-tells : goal.returns-in_err-say_unmet-clause-tells
returns-in_err-say_unmet-clause-tells g c = λ s tells is.
    says_err c.from_residual-in_err-say_unmet.result c.from_residual-in_err-say_unmet.ensures.0 (phase_lines s)
    (told_by (g.H.Host.state c.say_unmet.new.host) c.say_unmet.new.summary)
    (says_more (map UnmetLine (unmet_in s)) (phase_line (phase_after s.phase) ∷ [])
    (rw (names g (goal.at.returns-in_err-say_unmet-clause-tells g c).After-say_unmet is, c.in_ok-unmet.ensures.summary)
    at (c.in_err-say_unmet.ensures.tells tells)))

pub returns-clause-tells : goal.returns-clause-tells
returns-clause-tells g c = λ s tells is.
    let y = told_by (g.H.Host.state c.say_unmet.new.host) c.say_unmet.new.summary in
    let z = told_by (g.H.Host.state c.say.new.host) c.say.new.summary in
    let p = c.in_ok-unmet.ensures.next in
    let there : Some p.start ≡ Some s = sym p.is ∙ is in
    let same : p.start ≡ s = cc in
    let line = c.phase_word-word.ensures
    ∙ ap phase_line (c.phase.ensures
    ∙ ap (λ (k : MachineState). option_map_or (λ (t : Start). t.phase) k.start Done) p.machine
    ∙ ap (λ (t : Start). phase_after t.phase) same) in
    says_then c.say.result (map UnmetLine (unmet_in s)) (phase_line (phase_after s.phase)) z
    (rw (names g (goal.at.returns-clause-tells g c).After-say_unmet is, c.in_ok-unmet.ensures.summary) at
    (c.in_ok-say_unmet.ensures.tells tells)) (tells_line c.say.result _ (phase_line (phase_after s.phase)) y z line
    (c.say.ensures.tells (c.in_ok-say_unmet.ensures.host.keeps.tells ∙ tells)))
