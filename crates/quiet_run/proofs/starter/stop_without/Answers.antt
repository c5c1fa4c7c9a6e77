use Rattle.quiet_run.specs.Play.{watched_in}
use Rattle.quiet_run.proofs.StepLemmas.{stopped_by}
use Rattle.quiet_run.proofs.starter.stop_without.Goals as goal

pub returns-clause-watched : goal.returns-clause-watched
returns-clause-watched c =
    stopped_by c.args.missing.now c.push_names.new.out _ c.args.play.now.last (watched_in c.end.new.play) c.requires.some
    c.in_ok-push_names.ensures c.end.ensures.watched
