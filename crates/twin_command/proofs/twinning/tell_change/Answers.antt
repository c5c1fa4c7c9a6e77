use Rattle.command_parts.specs.command_parts.Views.{saves_seen}
use Rattle.twin_command.proofs.TwinnedLemmas.{untold}
use Rattle.twin_command.proofs.twinning.tell_change.Goals as goal

pub returns-in-Err : goal.returns-in-Err
returns-in-Err g c =
    untold c.args.form g.S.Scheme.stands c.args.files.now c.args.number (saves_seen c.args.saves) c.requires.some
    (g.H.Host.state c.args.host.now) (g.B.Disk.state c.place_and_change.new.bench)
    c.in-Err.ensures.off c.in-Err.ensures.part
