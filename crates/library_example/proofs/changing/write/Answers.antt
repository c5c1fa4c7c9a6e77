use Rattle.library_example.proofs.ChangeLemmas.{written_by}
use Rattle.library_example.proofs.changing.write.Goals as goal

pub returns-in-Ok : goal.returns-in-Ok
returns-in-Ok g c = λ tells.
    written_by g.D.Disk.tells (g.D.Disk.state c.commit.new.disk) c.args.hive (c.in-Ok._hive, c.in-Ok.number)
    c.in-Ok.ensures.committed tells
