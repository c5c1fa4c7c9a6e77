use Rattle.twin_command.proofs.TwinnedLemmas.{part_unrun}
use Rattle.twin_command.proofs.twinning.place_and_change.Goals as goal

pub returns-in-Err-clause-part : goal.returns-in-Err-clause-part
returns-in-Err-clause-part g c =
    part_unrun c.args.files.now (g.B.Disk.state c.place.new.bench) c.in-Err.ensures.unrun
