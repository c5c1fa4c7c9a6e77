use Rattle.std.proofs.Common.{◌≡◌, ◌∷◌, take}
use Rattle.key_command.proofs.key_cells.finding.path_from.Given as goal

abbrev pub invariant-loop-name : goal.invariant-loop-name
invariant-loop-name l = l.path ≡ l.fn.first ∷ take l.name-index l.rest
