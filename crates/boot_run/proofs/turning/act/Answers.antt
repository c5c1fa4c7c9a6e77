use Rattle.std.proofs.Common.{◌≡◌, ◌∙◌, None}
use Rattle.boot_run.specs.Choices.{choices}
use Rattle.boot_run.proofs.PlayLemmas.{counted, turns}
use Rattle.boot_run.proofs.turning.act.Goals as goal

pub returns-in-Some : goal.returns-in-Some
returns-in-Some g c = rw c.in-Some.is (c.running.ensures (choices c.args.ini.now c.args.system.now))

pub returns-in-None : goal.returns-in-None
returns-in-None g c = turns c.idle.ensures.sound c.idle.ensures.host (λ m tells counts by.
    let sound = rw c.in-None.is at c.requires.sound in
    let gone : m.machine.start ≡ None = counted m c.args.runner.now counts ∙ sound.1 in
    rw gone (rw gone at (c.idle.ensures.plays m tells counts (rw c.in-None.is at by))))
