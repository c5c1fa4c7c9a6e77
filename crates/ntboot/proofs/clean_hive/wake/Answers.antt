use Rattle.ntboot.proofs.BetweenLemmas.{awake_with}
use Rattle.ntboot.proofs.clean_hive.wake.Goals as goal

pub returns : goal.returns
returns g c =
    awake_with c.args.files.now (g.B.Disk.state c.place.new.bench) (g.B.Disk.state c.power_on.new.self)
    c.power_on.result c.in_ok-place.ensures.placed c.power_on.ensures.woken
