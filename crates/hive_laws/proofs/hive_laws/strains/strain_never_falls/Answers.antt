use Rattle.hive_laws.proofs.Room.{strain_least, strain_grows}
use Rattle.hive_laws.proofs.hive_laws.strains.strain_never_falls.Goals as goal

pub returns-clause-old_length : goal.returns-clause-old_length
returns-clause-old_length c = strain_least

pub returns-clause-further : goal.returns-clause-further
returns-clause-further c = strain_grows
