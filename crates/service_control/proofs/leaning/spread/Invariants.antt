use Rattle.std.specs.Prelude.{count_by}
use Rattle.service_control.proofs.SpreadState.{IsSpread}
use Rattle.service_control.proofs.leaning.spread.Given as goal

abbrev pub invariant-spread : goal.invariant-spread
invariant-spread l = IsSpread l.running l.name l.owners l.waiting l.taken.items

abbrev pub decreases-spread : goal.decreases-spread
decreases-spread l = count_by (λ b. b) l.waiting.waits
