use Rattle.std.proofs.Common.{◌≡◌, length, map}
use Rattle.boot_machine.specs.boot_machine.Views.{event_in}
use Rattle.quiet_run.specs.Choices.{choices}
use Rattle.quiet_run.specs.Play.{watched_in, IsSound}
use Rattle.quiet_run.specs.Watch.{watched_from}
use Rattle.quiet_run.proofs.whole.events.Given as goal

abbrev pub invariant-event : goal.invariant-event
invariant-event l =
    (watched_from (choices l.ini l.system) (map event_in l.rest) (watched_in l.play)
    ≡ watched_from (choices l.ini l.system) (map event_in l.script) (watched_in l.initial.play)) × IsSound l.play

abbrev pub decreases-event : goal.decreases-event
decreases-event l = length l.rest
