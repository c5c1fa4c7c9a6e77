use Rattle.ntboot.proofs.BetweenLemmas.{primary_held}
use Rattle.ntboot.proofs.clean_hive.primary_of.Goals as goal

pub returns : goal.returns
returns g c =
    let hive = c.in_ok-hive.ensures.taken in
    primary_held (g.B.Disk.state c.args.disk.now) (g.B.Disk.state c.power_off.new.self) hive.0 c.in_ok-hive.hive
    c.power_off.ensures.off hive.1 hive.3
