use Rattle.std.proofs.Common.{map, ◌∙◌}
use Rattle.report_words.specs.declared.line.Line.TheVariants.{Unmet as UnmetLine}
use Rattle.boot_run.specs.Views.{told_by}
use Rattle.boot_run.proofs.HostLemmas.{still-then}
use Rattle.boot_run.proofs.UnmetLemmas.{name_next}
use Rattle.boot_run.proofs.unmet.say_unmet.Goals as goal

pub names-preserved : goal.names-preserved
names-preserved g c = record {
  tells = λ tells.
      name_next UnmetLine c.names.waiting.now c.name-item.result c.in-Ok.name (map UnmetLine c.args.names.now)
      (told_by (g.H.Host.state c.args.host.now) c.args.summary.now)
      (told_by (g.H.Host.state c.names.host) c.names.summary)
      (told_by (g.H.Host.state c.say.new.host) c.say.new.summary)
      c.in-len1-up.len_at_least c.name-item.is c.in-Ok.ensures (c.names.invariant.tells tells)
      (c.in_ok-say.ensures.tells (c.names.invariant.host.keeps.tells ∙ tells));
  host = still-then c.in_ok-say.field-0 (g.H.Host.state c.args.host.now) (g.H.Host.state c.names.host)
      (g.H.Host.state c.say.new.host) c.names.invariant.host c.in_ok-say.ensures.host;
}
