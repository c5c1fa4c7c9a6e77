-- When does a script order no stop of the disk? (this project's own)
use Rattle.std.specs.Prelude.{List, [], ◌∷◌}
use Rattle.start_model.specs.Events as events
use Rattle.start_model.specs.Events.{Event}

-- the event neither cuts the power nor orders a stop of the disk
abbrev pub IsUnordered : Event → Type 0
IsUnordered (events.CutNow keep) = ⊥
IsUnordered (events.Arm arming) = ⊥
IsUnordered other = Unit {0}

-- none of the events does
abbrev pub AreUnordered : List Event → Type 0
AreUnordered [] = Unit {0}
AreUnordered (e ∷ es) = IsUnordered e × AreUnordered es
