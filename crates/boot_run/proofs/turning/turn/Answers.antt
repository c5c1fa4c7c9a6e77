use Rattle.std.proofs.Common.{refl, rules}
use Rattle.boot_machine.specs.boot_machine.Views.{event_in, word_of_refusal}
use Rattle.boot_run.specs.Choices.{choices}
use Rattle.boot_run.proofs.PlayLemmas.{plays-as, plays-line, plays-front, plays-here, here_turn, agrees_left, turns}
use Rattle.boot_run.proofs.TurnLemmas.{event_accepted, event_refused}
use Rattle.boot_run.proofs.turning.turn.Goals as goal

pub returns-in-Ok : goal.returns-in-Ok
returns-in-Ok g c = turns (search rules) (search rules) (λ m tells counts by.
    plays-as (event_accepted (choices c.args.ini.now c.args.system.now) (event_in c.args.event.now) m c.args.runner.now
    counts c.in-Ok.ensures) (c.act.ensures.plays m tells counts by))

pub returns-in-Ok-refuse : goal.returns-in-Ok-refuse
returns-in-Ok-refuse g c = turns (search rules) (search rules) (λ m tells counts by.
    plays-as (event_refused (choices c.args.ini.now c.args.system.now) (event_in c.args.event.now)
    (word_of_refusal c.in-Err.refusal) m c.args.runner.now counts c.in-Err.ensures)
    (plays-line refl (c.in-Ok-refuse.ensures.tells tells)
    (plays-here refl (here_turn (record { machine = counts.machine; starts = counts.starts }) by))))

pub returns-in-Err-refuse : goal.returns-in-Err-refuse
returns-in-Err-refuse g c = turns (search rules) (search rules) (λ m tells counts by.
    let r = c.args.runner.now in
    let why = word_of_refusal c.in-Err.refusal in
    plays-as (event_refused (choices c.args.ini.now c.args.system.now) (event_in c.args.event.now) why m r counts
    c.in-Err.ensures) (plays-front refl refl (c.in-Err-refuse.ensures.tells tells)
    (agrees_left m r (g.B.Disk.state c.args.bench.now) c.args.hive c.requires.sound by)))
