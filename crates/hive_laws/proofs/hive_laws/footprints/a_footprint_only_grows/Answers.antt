use Rattle.hive_laws.proofs.Room.{footprint_grows}
use Rattle.hive_laws.proofs.hive_laws.footprints.a_footprint_only_grows.Goals as goal

pub returns : goal.returns
returns c = footprint_grows
