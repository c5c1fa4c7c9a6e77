use Rattle.std.proofs.Common.{refl}
use Rattle.nt_bytes.specs.declared.version.HiveVersion.TheVariants.{V3, V5}
use Rattle.hive_model.specs.Edit.{edited}
use Rattle.hive_examples.proofs.edits.bad_names.Goals as goal

pub returns-clause-made : goal.returns-clause-made
unfolding edited
returns-clause-made c = elim [ V3 ↦ refl | V5 ↦ refl ]

pub returns-clause-backslash : goal.returns-clause-backslash
unfolding edited
returns-clause-backslash c = elim [ V3 ↦ refl | V5 ↦ refl ]

pub returns-clause-copied : goal.returns-clause-copied
unfolding edited
returns-clause-copied c = elim [ V3 ↦ refl | V5 ↦ refl ]

pub returns-clause-added : goal.returns-clause-added
unfolding edited
returns-clause-added c = elim [ V3 ↦ refl | V5 ↦ refl ]
