use Rattle.std.proofs.Common.{◌∙◌, sym, refl}
use Rattle.report_words.specs.declared.line.Line.TheVariants as lines
use Rattle.start_model.specs.Act.{done, say}
use Rattle.run_parts.proofs.GoesLemmas.{idle}
use Rattle.boot_run.proofs.PlayLemmas.{plays-as, plays-err, plays-on, plays-said}
use Rattle.boot_run.proofs.whole.close.Goals as goal

pub returns-in_err-say_last-clause-plays : goal.returns-in_err-say_last-clause-plays
returns-in_err-say_last-clause-plays g c = λ m d tells counts left.
    plays-err c.from_residual.ensures.0 (c.in_err-say_last.ensures.plays m d (say lines.End (done m)) tells counts left)

pub returns-clause-plays : goal.returns-clause-plays
returns-clause-plays g c = λ m d tells counts left.
    plays-on (c.in_ok-say_last.ensures.plays m d (say lines.End (done m)) tells counts left) (λ rest is.
    plays-as (sym is) (plays-said (idle d) refl (c.say.ensures.tells (c.in_ok-say_last.ensures.host.keeps.tells ∙ tells))
    left (λ v. refl)))
