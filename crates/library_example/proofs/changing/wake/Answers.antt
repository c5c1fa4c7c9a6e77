use Rattle.library_example.proofs.ChangeLemmas.{woke_on, woke_still}
use Rattle.library_example.proofs.changing.wake.Goals as goal

pub returns-clause-on : goal.returns-clause-on
returns-clause-on g c =
    woke_on c.power_on.result (g.B.Disk.state c.place.new.self) (g.B.Disk.state c.power_on.new.self) c.power_on.ensures.woken

pub returns-clause-still : goal.returns-clause-still
returns-clause-still g c =
    woke_still c.power_on.result (g.B.Disk.state c.place.new.self) (g.B.Disk.state c.power_on.new.self) c.power_on.ensures.woken
