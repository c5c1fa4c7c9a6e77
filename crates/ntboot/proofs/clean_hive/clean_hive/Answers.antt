use Rattle.ntboot.proofs.BetweenLemmas.{stands_between}
use Rattle.ntboot.proofs.clean_hive.clean_hive.Goals as goal

pub returns : goal.returns
returns g c =
    stands_between (g.B.Disk.state c.args.disk.now) (g.B.Disk.state c.power_off.new.self) c.in_ok-files.files
    c.clean_primary.result c.power_off.ensures.off c.in_ok-files.ensures c.clean_primary.ensures
