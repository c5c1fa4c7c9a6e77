use Rattle.hive_laws.proofs.Room.{footprint_goes_on, footprint_ends}
use Rattle.hive_laws.proofs.hive_laws.footprints.a_footprint_goes_on.Goals as goal

pub returns-clause-further : goal.returns-clause-further
returns-clause-further c = footprint_goes_on

pub returns-clause-refused : goal.returns-clause-refused
returns-clause-refused c = footprint_ends
