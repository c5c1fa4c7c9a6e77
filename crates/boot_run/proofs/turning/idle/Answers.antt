use Rattle.std.proofs.Common.{rules}
use Rattle.boot_run.specs.Choices.{choices}
use Rattle.boot_run.proofs.PlayLemmas.{plays-as, turns}
use Rattle.boot_run.proofs.TurnLemmas.{other_idles}
use Rattle.boot_run.proofs.turning.idle.Goals as goal

pub returns-in-Boot : goal.returns-in-Boot
returns-in-Boot g c = turns (search rules) (search rules) (λ m tells counts by.
    rw c.in-Boot.is (c.boot.ensures.plays m tells counts by))

pub returns-in_default : goal.returns-in_default
returns-in_default g c = turns (search rules) (c.beside.ensures.host (g.H.Host.state c.args.host.now)) (λ m tells counts by.
    plays-as (other_idles (choices c.args.ini.now c.args.system.now) c.args.event.now m c.in_default.not-Boot)
    (c.beside.ensures.plays m (g.H.Host.state c.args.host.now) (record { counts = counts; by = by })))
