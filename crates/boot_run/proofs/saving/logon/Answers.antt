use Rattle.std.proofs.Common.{◌∙◌, refl, sym, ap, rules}
use Rattle.start_model.specs.Act.{done}
use Rattle.boot_machine.specs.boot_machine.Steps.{on_start}
use Rattle.boot_run.proofs.PlayLemmas.{plays-as, plays-left, plays-line, rests-front, stays_done, turns}
use Rattle.boot_run.proofs.SaveLemmas.{live_machine}
use Rattle.boot_run.proofs.DueLemmas.{due_may, logged, logged_on, logged_state, logon_is, done_left, start_by}
use Rattle.boot_run.proofs.saving.logon.Goals as goal

pub returns-in_err-say : goal.returns-in_err-say
returns-in_err-say g c = turns (search rules) (search rules) (λ m tells counts live.
    plays-as (logon_is c.args.hive.tree counts c.requires.sound.1)
    (rests-front c.from_residual.ensures.0 refl (c.in_err-say.ensures.tells tells)
    (due_may (logged_state m).machine.start (logged_state m) done stays_done) c.requires.sound.0 live))

pub save_where_due-requires : goal.save_where_due-requires
save_where_due-requires g c = record {
  sound = start_by logged c.args.runner.now (record c.args.runner.now { machine = c.log_on.new.self })
      (g.B.Disk.state c.args.bench.now) c.args.hive
      (λ o h. logged_on o c.args.hive.tree h) c.log_on.ensures c.requires.sound;
}

pub returns : goal.returns
returns g c = turns (search rules) (search rules) (λ m tells counts live.
    plays-as (logon_is c.args.hive.tree counts c.requires.sound.1)
    (plays-line refl (c.in_ok-say.ensures.tells tells)
    (plays-left (c.save_where_due.ensures.plays (logged_state m) done (c.in_ok-say.ensures.host.keeps.tells ∙ tells)
    (record { machine = ap (on_start logged) counts.machine ∙ sym c.log_on.ensures; starts = counts.starts })
    (live_machine (logged_state m).machine live) stays_done)
    (done_left c.save_where_due.new.runner (g.B.Disk.state c.save_where_due.new.bench)))))
