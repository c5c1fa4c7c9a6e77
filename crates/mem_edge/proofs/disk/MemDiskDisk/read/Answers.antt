use Rattle.std.proofs.Common.{sym, ◌∙◌}
use Rattle.nt_edge.specs.declared.disk.Presence.{Presence}
use Rattle.nt_edge.specs.declared.disk.DiskCall.TheVariants.{Read}
use Rattle.mem_edge.specs.Seen.{nothing}
use Rattle.mem_edge.proofs.StopLemmas.{stop_cause, does_stop}
use Rattle.mem_edge.proofs.disk.MemDiskDisk.read.Goals as goal

pub returns-in-Some-clause-cause : goal.returns-in-Some-clause-cause
returns-in-Some-clause-cause c =
    stop_cause Presence c.args.self.now c.stop.new.self Read c.in-Some.stop c.stop.ensures.seen
    (sym c.stop.ensures.stop ∙ c.in-Some.is)

pub returns-in-Some-clause-does : goal.returns-in-Some-clause-does
returns-in-Some-clause-does c =
    does_stop Presence c.args.self.now c.stop.new.self Read c.in-Some.stop c.stop.ensures.seen
    (sym c.stop.ensures.stop ∙ c.in-Some.is) nothing
