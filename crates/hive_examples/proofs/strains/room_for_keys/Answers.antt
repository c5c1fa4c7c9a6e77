use Rattle.std.proofs.Common.{refl}
use Rattle.nt_bytes.specs.declared.version.HiveVersion.TheVariants.{V3, V5}
use Rattle.hive_model.specs.Footprint.{list_sizes}
use Rattle.hive_examples.proofs.strains.room_for_keys.Goals as goal

pub returns-clause-made : goal.returns-clause-made
unfolding list_sizes
returns-clause-made c = elim [ V3 ↦ refl | V5 ↦ refl ]

pub returns-clause-there : goal.returns-clause-there
unfolding list_sizes
returns-clause-there c = elim [ V3 ↦ refl | V5 ↦ refl ]

pub returns-clause-removed : goal.returns-clause-removed
unfolding list_sizes
returns-clause-removed c = elim [ V3 ↦ refl | V5 ↦ refl ]

pub returns-clause-made_again : goal.returns-clause-made_again
unfolding list_sizes
returns-clause-made_again c = elim [ V3 ↦ refl | V5 ↦ refl ]

pub returns-clause-copied : goal.returns-clause-copied
unfolding list_sizes
returns-clause-copied c = elim [ V3 ↦ refl | V5 ↦ refl ]

pub returns-clause-added : goal.returns-clause-added
unfolding list_sizes
returns-clause-added c = elim [ V3 ↦ refl | V5 ↦ refl ]
