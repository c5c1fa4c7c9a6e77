use Rattle.ntboot.proofs.BetweenLemmas.{recovered_clean}
use Rattle.ntboot.proofs.clean_hive.recovered_primary.Goals as goal

pub returns-in-Ok : goal.returns-in-Ok
returns-in-Ok g c = λ tells.
    recovered_clean (g.B.Disk.state c.args.disk.now).held (g.B.Disk.state c.recover.new.disk) c.in-Ok._found
    (c.in-Ok.ensures.exact tells) (rw tells at c.in-Ok.ensures.recovered.clean) c.primary_of.result c.primary_of.ensures
