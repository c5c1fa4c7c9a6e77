use Rattle.std.proofs.Common.{map, ◌∙◌}
use Rattle.report_words.specs.declared.line.Line.TheVariants.{Unmet as UnmetLine, Vital as VitalLine}
use Rattle.boot_run.specs.Starts.{stop_lines}
use Rattle.boot_run.specs.Views.{told_by}
use Rattle.boot_run.proofs.StartLemmas.{says_err, says_more, says_behind}
use Rattle.boot_run.proofs.missing.say_both.Goals as goal

pub returns-in_err-say_unmet-clause-tells : goal.returns-in_err-say_unmet-clause-tells
returns-in_err-say_unmet-clause-tells g c = λ tells.
    says_err c.from_residual.result c.from_residual.ensures.0 (stop_lines c.args.unmet.now c.args.missing.now)
    (told_by (g.H.Host.state c.say_unmet.new.host) c.say_unmet.new.summary)
    (says_more (map UnmetLine c.args.unmet.now) (map VitalLine c.args.missing.now)
    (c.in_err-say_unmet.ensures.tells tells))

pub returns-clause-tells : goal.returns-clause-tells
returns-clause-tells g c = λ tells.
    says_behind c.say_missing.result (map UnmetLine c.args.unmet.now) (map VitalLine c.args.missing.now)
    (told_by (g.H.Host.state c.say_missing.new.host) c.say_missing.new.summary) (c.in_ok-say_unmet.ensures.tells tells)
    (c.say_missing.ensures.tells (c.in_ok-say_unmet.ensures.host.keeps.tells ∙ tells))
