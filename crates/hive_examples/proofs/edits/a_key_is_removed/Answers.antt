use Rattle.std.proofs.Common.{refl}
use Rattle.nt_bytes.specs.declared.version.HiveVersion.TheVariants.{V3, V5}
use Rattle.hive_model.specs.Edit.{edited}
use Rattle.hive_examples.proofs.edits.a_key_is_removed.Goals as goal

pub returns-clause-child : goal.returns-clause-child
unfolding edited
returns-clause-child c = elim [ V3 ↦ refl | V5 ↦ refl ]

pub returns-clause-below : goal.returns-clause-below
unfolding edited
returns-clause-below c = elim [ V3 ↦ refl | V5 ↦ refl ]
