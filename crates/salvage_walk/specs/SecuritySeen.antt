-- A security cell whose descriptor is left where it stands, as the code has it.
use Rattle.hive_model.specs.Security.{SecurityCell}
use Rattle.salvage_walk.specs.declared.parts.SkSeen.{SkSeen}

abbrev pub sk_seen : SkSeen → SecurityCell
sk_seen s = record { forward = s.forward; backward = s.backward; uses = s.uses; descriptor = s.descriptor.now }
