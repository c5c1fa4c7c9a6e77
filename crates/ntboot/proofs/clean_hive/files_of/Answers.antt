use Rattle.ntboot.proofs.BetweenLemmas.{files_held}
use Rattle.ntboot.proofs.clean_hive.files_of.Goals as goal

pub returns : goal.returns
returns g c =
    let hive = c.in_ok-primary.ensures.taken in
    let log = c.in_ok-log.ensures.taken in
    files_held (g.B.Disk.state c.args.disk.now) (g.B.Disk.state c.take.new.self) hive.0 log.0
    c.in_ok-primary.primary c.in_ok-log.log hive.1 hive.2 hive.3 log.1 log.3
