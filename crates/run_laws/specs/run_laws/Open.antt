-- Is a change of the disk open? (this project's own)
use Rattle.std.specs.Prelude.{◌≡◌, None, IfSome}
use Rattle.start_model.specs.Act.{RunState}

-- where a start runs, the disk loads as one state and no other: a stop that leaves a change open ends the start
abbrev pub IsClosed : RunState → Type 0
IsClosed m = IfSome m.machine.start (λ s. m.disk.other ≡ None)
