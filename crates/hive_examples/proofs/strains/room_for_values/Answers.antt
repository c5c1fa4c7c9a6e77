use Rattle.std.proofs.Common.{refl}
use Rattle.nt_bytes.specs.declared.version.HiveVersion.TheVariants.{V3, V5}
use Rattle.hive_examples.proofs.strains.room_for_values.Goals as goal

pub returns-clause-set : goal.returns-clause-set
returns-clause-set c = elim [ V3 ↦ refl | V5 ↦ refl ]

pub returns-clause-with_data : goal.returns-clause-with_data
returns-clause-with_data c = elim [ V3 ↦ refl | V5 ↦ refl ]

pub returns-clause-deleted : goal.returns-clause-deleted
returns-clause-deleted c = elim [ V3 ↦ refl | V5 ↦ refl ]

pub returns-clause-one_long : goal.returns-clause-one_long
returns-clause-one_long c = refl

pub returns-clause-two_segments : goal.returns-clause-two_segments
returns-clause-two_segments c = refl
