use Rattle.hive_laws.proofs.Room.{strain_goes_on}
use Rattle.hive_laws.proofs.hive_laws.strains.strain_goes_on.Goals as goal

pub returns : goal.returns
returns c = strain_goes_on
