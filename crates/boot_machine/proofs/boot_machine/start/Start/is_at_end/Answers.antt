use Rattle.std.proofs.Common.{not, ap}
use Rattle.boot_machine.proofs.boot_machine.start.Start.is_at_end.Goals as goal

pub returns : goal.returns
returns c = rw (← c.self.view_is) (ap not c.has_next.ensures)
