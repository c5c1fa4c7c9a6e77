use Rattle.std.proofs.Common.{◌≡◌, true, length, map}
use Rattle.report_words.specs.declared.line.Line.TheVariants.{Unmet as UnmetLine}
use Rattle.boot_run.specs.Hosts.{StillHost}
use Rattle.boot_run.specs.Views.{told_by, TellsBefore}
use Rattle.boot_run.proofs.unmet.say_unmet.Given as goal

abbrev pub invariant-names : goal.invariant-names
invariant-names g l = record {
  tells : (g.H.Host.state l.fn.host).tells ≡ true
      → TellsBefore (map UnmetLine l.fn.names) (map UnmetLine l.waiting)
      (told_by (g.H.Host.state l.fn.host) l.fn.summary) (told_by (g.H.Host.state l.host) l.summary);
  host : StillHost (g.H.Host.state l.fn.host) (g.H.Host.state l.host);
}

abbrev pub decreases-names : goal.decreases-names
decreases-names g l = length l.waiting
