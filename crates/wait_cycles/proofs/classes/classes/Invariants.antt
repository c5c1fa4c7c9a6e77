use Rattle.std.specs.Prelude.{vec_len}
use Rattle.wait_cycles.specs.Classes.{AreClasses}
use Rattle.wait_cycles.proofs.classes.classes.Given as goal

abbrev pub invariant-order : goal.invariant-order
invariant-order l = AreClasses l.rows l.before.items l.classes.items

abbrev pub decreases-order : goal.decreases-order
decreases-order l = vec_len l.order
