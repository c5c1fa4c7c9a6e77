use Rattle.std.proofs.Common.{◌∙◌, arith}
use Rattle.command_parts.specs.command_parts.Views.{saves_seen}
use Rattle.twin_command.proofs.TwinnedLemmas.{finished_twins, untold, part_of}
use Rattle.twin_command.proofs.twinning.tell_and_save.Goals as goal

pub returns-in-Ok : goal.returns-in-Ok
returns-in-Ok g c =
    finished_twins c.args.form g.S.Scheme.stands c.args.files.now c.args.number (saves_seen c.args.saves)
    c.args.told c.as_slice.result.now c.finish.result
    (g.H.Host.state c.args.host.now) (g.H.Host.state c.finish.new.host) (g.B.Disk.state c.args.bench.now)
    (g.B.Disk.state c.finish.new.bench)
    c.requires.off c.requires.twinned (c.as_slice.ensures.value ∙ c.in-Ok.ensures) c.finish.ensures

pub returns-in-Err : goal.returns-in-Err
returns-in-Err g c =
    let is = c.requires.twinned in
    untold c.args.form g.S.Scheme.stands c.args.files.now c.args.number (saves_seen c.args.saves) (is.found, is.tree, is.is_found)
    (g.H.Host.state c.args.host.now) (g.B.Disk.state c.args.bench.now)
    c.requires.off (part_of g.S.Scheme.stands c.args.files.now c.args.number is.found is.tree 0 0
    (g.B.Disk.state c.args.bench.now) (omega arith) is.disk_is)
