use Rattle.std.proofs.Common.{refl}
use Rattle.nt_bytes.specs.declared.version.HiveVersion.TheVariants.{V3, V5}
use Rattle.hive_model.specs.Edit.{edited}
use Rattle.hive_examples.proofs.edits.missing_keys.Goals as goal

pub returns-clause-set : goal.returns-clause-set
unfolding edited
returns-clause-set c = elim [ V3 ↦ refl | V5 ↦ refl ]

pub returns-clause-deleted : goal.returns-clause-deleted
unfolding edited
returns-clause-deleted c = elim [ V3 ↦ refl | V5 ↦ refl ]

pub returns-clause-made : goal.returns-clause-made
unfolding edited
returns-clause-made c = elim [ V3 ↦ refl | V5 ↦ refl ]

pub returns-clause-removed : goal.returns-clause-removed
unfolding edited
returns-clause-removed c = elim [ V3 ↦ refl | V5 ↦ refl ]

pub returns-clause-root : goal.returns-clause-root
unfolding edited
returns-clause-root c = elim [ V3 ↦ refl | V5 ↦ refl ]

pub returns-clause-copied : goal.returns-clause-copied
unfolding edited
returns-clause-copied c = elim [ V3 ↦ refl | V5 ↦ refl ]

pub returns-clause-no_value : goal.returns-clause-no_value
unfolding edited
returns-clause-no_value c = elim [ V3 ↦ refl | V5 ↦ refl ]
