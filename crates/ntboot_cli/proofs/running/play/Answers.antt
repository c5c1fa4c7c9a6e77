use Rattle.std.proofs.Common.{ap, sym}
use Rattle.command_parts.specs.declared.command_parts.status.Status.TheVariants as statuses
use Rattle.command_parts.specs.command_parts.Views.{saves_seen}
use Rattle.ntboot_cli.proofs.RunLemmas.{saved_decides, stopped_run, stop_status}
use Rattle.ntboot_cli.proofs.running.play.Goals as goal

pub returns-in-Ok : goal.returns-in-Ok
returns-in-Ok g c =
    saved_decides c.args.form c.args.inputs.now (saves_seen c.args.saves)
    c.as_slice-script.result.now c.in-Ok.field-0 c.save.result c.saved.result
    (g.H.Host.state c.args.host.now) (g.H.Host.state c.run.new.host) (g.H.Host.state c.save.new.host)
    (g.B.Disk.state c.args.bench.now) (g.B.Disk.state c.run.new.bench) (g.B.Disk.state c.save.new.bench)
    c.saved.ensures c.as_slice-script.ensures c.requires.placed c.requires.loads
    c.in-Ok.ensures.report c.in-Ok.ensures.host c.in-Ok.ensures.off c.save.ensures

pub returns-in-Err-Write : goal.returns-in-Err-Write
returns-in-Err-Write g c =
    stopped_run c.args.form c.args.inputs.now (saves_seen c.args.saves) c.as_slice-script.result.now
    (g.H.Host.state c.args.host.now) (g.H.Host.state c.run.new.host)
    (g.B.Disk.state c.args.bench.now) (g.B.Disk.state c.run.new.bench)
    c.requires.loads c.as_slice-script.ensures c.requires.placed
    c.in-Err-Write.field-0 statuses.WriteFault (sym (ap stop_status c.in-Err-Write.field-0-is))
    c.in-Err-Write.ensures.report c.in-Err-Write.ensures.host c.in-Err-Write.ensures.off

pub returns-in-Err-Memory : goal.returns-in-Err-Memory
returns-in-Err-Memory g c =
    stopped_run c.args.form c.args.inputs.now (saves_seen c.args.saves) c.as_slice-script.result.now
    (g.H.Host.state c.args.host.now) (g.H.Host.state c.run.new.host)
    (g.B.Disk.state c.args.bench.now) (g.B.Disk.state c.run.new.bench)
    c.requires.loads c.as_slice-script.ensures c.requires.placed
    c.in-Err-Memory.field-0 statuses.Memory (sym (ap stop_status c.in-Err-Memory.field-0-is))
    c.in-Err-Memory.ensures.report c.in-Err-Memory.ensures.host c.in-Err-Memory.ensures.off
