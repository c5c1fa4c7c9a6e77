use Rattle.std.proofs.Common.{◌∙◌, refl, false, rules}
use Rattle.report_words.specs.declared.words.Verdict.TheVariants as verdicts
use Rattle.start_model.specs.Act.{end_with}
use Rattle.boot_run.specs.Starts.{stop_lines}
use Rattle.boot_run.proofs.CloseLemmas.{end_plays}
use Rattle.boot_run.proofs.StartLemmas.{plays-all, front-all, stop_quiet}
use Rattle.boot_run.proofs.PlayLemmas.{ends}
use Rattle.boot_run.proofs.missing.stop_without.Goals as goal

pub returns-in_err-say_both : goal.returns-in_err-say_both
returns-in_err-say_both g c = ends (search rules) (search rules) (λ m tells counts left.
    front-all (stop_lines c.args.unmet.now c.args.missing.now) (end_with verdicts.Stopped false m)
    c.from_residual.ensures.0 (stop_quiet c.args.unmet.now c.args.missing.now)
    (c.in_err-say_both.ensures.tells tells) left)

pub returns : goal.returns
returns g c = ends (search rules) (search rules) (λ m tells counts left.
    plays-all (stop_quiet c.args.unmet.now c.args.missing.now) (c.in_ok-say_both.ensures.tells tells)
    (end_plays verdicts.Stopped c.end_with.new.runner (record { falls = refl; none = refl }) counts left
    c.end_with.ensures.machine c.end_with.ensures.starts c.end_with.ensures.off
    (c.end_with.ensures.tells (c.in_ok-say_both.ensures.host.keeps.tells ∙ tells))))
