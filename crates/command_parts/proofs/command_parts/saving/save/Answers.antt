use Rattle.command_parts.specs.command_parts.Views.{saves_seen}
use Rattle.command_parts.proofs.SaveLemmas.{saves-both, saves-stopped}
use Rattle.command_parts.proofs.command_parts.saving.save.Goals as goal

pub returns : goal.returns
returns g c =
    saves-both (saves_seen c.args.saves) c.save_file-2.result (g.H.Host.state c.args.host.now)
    (g.H.Host.state c.save_file.new.host)
    (g.H.Host.state c.save_file-2.new.host) (g.B.Disk.state c.args.bench.now) (g.B.Disk.state c.save_file.new.bench)
    (g.B.Disk.state c.save_file-2.new.bench) c.in_ok-save_file.ensures c.save_file-2.ensures

pub returns-in_err-save_file : goal.returns-in_err-save_file
returns-in_err-save_file g c =
    saves-stopped (saves_seen c.args.saves) c.in_err-save_file.field-0.0 c.from_residual.result
    (g.H.Host.state c.args.host.now) (g.H.Host.state c.save_file.new.host)
    (g.B.Disk.state c.args.bench.now) (g.B.Disk.state c.save_file.new.bench)
    c.from_residual.ensures.1 c.in_err-save_file.ensures
