use Rattle.boot_machine.specs.boot_machine.Views.{tried_in}
use Rattle.quiet_run.specs.Play.{state_in, watched_in}
use Rattle.quiet_run.proofs.TryLemmas.{tried_so, attempt_sound}
use Rattle.quiet_run.proofs.starter.try_next.Goals as goal

pub returns-clause-watched : goal.returns-clause-watched
returns-clause-watched c = λ s.
    tried_so (state_in c.args.play.now) s c.args.play.now.last (watched_in c.end_where_judged.new.play) c.good_is_usable-usable.result
    c.attempt.new.self c.in_ok-tried.tried c.try_word-outcome.result c.push.new.self c.good_is_usable-usable.ensures
    c.in_ok-tried.ensures.attempt c.try_word-outcome.ensures c.in_ok-push.ensures.ok c.end_where_judged.ensures.watched

pub returns-clause-sound : goal.returns-clause-sound
returns-clause-sound c =
    c.end_where_judged.ensures.sound (record {
      live = c.requires.sound.live;
      settled = c.requires.sound.settled;
      start = attempt_sound c.args.play.now.machine c.attempt.new.self (tried_in c.in_ok-tried.tried) c.good_is_usable-usable.result
          c.in_ok-tried.ensures.attempt c.requires.sound.start;
      sets = c.requires.sound.sets;
    })
