use Rattle.std.proofs.Common.{arith}
use Rattle.hive_laws.proofs.Room.{list_strain_least}
use Rattle.hive_laws.proofs.hive_laws.strains.lists_have_room.Goals as goal

pub returns-clause-old_length : goal.returns-clause-old_length
returns-clause-old_length c = λ bytes n. omega (arith, list_strain_least bytes n)

pub returns-clause-lists : goal.returns-clause-lists
returns-clause-lists c = list_strain_least
