use Rattle.std.proofs.Common.{refl}
use Rattle.nt_bytes.specs.declared.version.HiveVersion.TheVariants.{V3, V5}
use Rattle.hive_examples.proofs.sizes.cells_of_data.Goals as goal

pub returns-clause-inside : goal.returns-clause-inside
returns-clause-inside c = elim [ V3 ↦ refl | V5 ↦ refl ]

pub returns-clause-one : goal.returns-clause-one
returns-clause-one c = elim [ V3 ↦ refl | V5 ↦ refl ]

pub returns-clause-one_long : goal.returns-clause-one_long
returns-clause-one_long c = refl

pub returns-clause-two : goal.returns-clause-two
returns-clause-two c = refl

pub returns-clause-two_full : goal.returns-clause-two_full
returns-clause-two_full c = refl

pub returns-clause-three : goal.returns-clause-three
returns-clause-three c = refl
