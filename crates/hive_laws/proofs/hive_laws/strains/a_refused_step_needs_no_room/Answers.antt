use Rattle.std.proofs.Common.{refl}
use Rattle.nt_bytes.specs.declared.version.HiveVersion.TheVariants.{V3, V5}
use Rattle.hive_laws.proofs.Room.{strain_stays, strain_ends}
use Rattle.hive_laws.proofs.hive_laws.strains.a_refused_step_needs_no_room.Goals as goal

pub returns-clause-step : goal.returns-clause-step
returns-clause-step c = strain_stays

pub returns-clause-behind : goal.returns-clause-behind
returns-clause-behind c = strain_ends

pub returns-clause-a_copy_of_nothing : goal.returns-clause-a_copy_of_nothing
returns-clause-a_copy_of_nothing c = elim [ V3 ↦ refl | V5 ↦ refl ]
