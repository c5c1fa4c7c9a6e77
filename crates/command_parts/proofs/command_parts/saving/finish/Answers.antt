use Rattle.command_parts.specs.command_parts.Views.{saves_seen}
use Rattle.command_parts.proofs.SaveLemmas.{finishes-saved, finishes-untold}
use Rattle.command_parts.proofs.command_parts.saving.finish.Goals as goal

pub returns-in-Done : goal.returns-in-Done
returns-in-Done g c =
    finishes-saved c.args.line.now (saves_seen c.args.saves) c.save.result c.saved.result (g.H.Host.state c.args.host.now)
    (g.H.Host.state c.tell.new.host) (g.H.Host.state c.save.new.host)
    (g.B.Disk.state c.args.bench.now) (g.B.Disk.state c.save.new.bench) c.saved.ensures
    c.in-Done.ensures.leaves c.in-Done.ensures.files c.in-Done.ensures.unasked c.save.ensures

pub returns-in_default : goal.returns-in_default
returns-in_default g c =
    finishes-untold c.args.line.now (saves_seen c.args.saves) c.tell.result (g.H.Host.state c.args.host.now)
    (g.H.Host.state c.tell.new.host) (g.B.Disk.state c.args.bench.now) (λ e. absurd (c.in_default.not-Done e))
    c.tell.ensures.leaves c.tell.ensures.files c.tell.ensures.unasked c.tell.ensures.kept
