use Rattle.std.proofs.Common.{◌≡◌, not, take}
use Rattle.std.specs.Prelude.{filter}
use Rattle.start_model.specs.Ready.{has_name}
use Rattle.boot_machine.proofs.boot_machine.vital.missing.Given as goal

abbrev pub invariant-loop-name : goal.invariant-loop-name
invariant-loop-name l = l.names ≡ filter (λ name. not (has_name l.started name)) (take l.name-index l.vital)
