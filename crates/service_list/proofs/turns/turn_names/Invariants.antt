use Rattle.std.proofs.Common.{◌≡◌, take}
use Rattle.service_list.specs.Turns.{turn_names}
use Rattle.service_list.proofs.turns.turn_names.Given as goal

abbrev pub invariant-loop-turn : goal.invariant-loop-turn
invariant-loop-turn l = l.names ≡ turn_names (take l.turn-index l.turns)
