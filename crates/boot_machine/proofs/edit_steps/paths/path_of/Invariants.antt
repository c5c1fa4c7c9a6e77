use Rattle.std.proofs.Common.{◌≡◌, ◌∷◌, take}
use Rattle.boot_machine.proofs.edit_steps.paths.path_of.Given as goal

abbrev pub invariant-loop-name : goal.invariant-loop-name
invariant-loop-name l = l.names ≡ l.fn.first ∷ take l.name-index l.rest
