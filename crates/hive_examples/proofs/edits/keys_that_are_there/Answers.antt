use Rattle.std.proofs.Common.{refl}
use Rattle.nt_bytes.specs.declared.version.HiveVersion.TheVariants.{V3, V5}
use Rattle.hive_model.specs.Edit.{edited}
use Rattle.hive_examples.proofs.edits.keys_that_are_there.Goals as goal

pub returns-clause-copied : goal.returns-clause-copied
unfolding edited
returns-clause-copied c = elim [ V3 ↦ refl | V5 ↦ refl ]

pub returns-clause-added : goal.returns-clause-added
unfolding edited
returns-clause-added c = elim [ V3 ↦ refl | V5 ↦ refl ]
