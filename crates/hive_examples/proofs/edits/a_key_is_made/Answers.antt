use Rattle.std.proofs.Common.{refl}
use Rattle.nt_bytes.specs.declared.version.HiveVersion.TheVariants.{V3, V5}
use Rattle.hive_model.specs.Edit.{edited}
use Rattle.hive_examples.proofs.edits.a_key_is_made.Goals as goal

pub returns-clause-between : goal.returns-clause-between
unfolding edited
returns-clause-between c = elim [ V3 ↦ refl | V5 ↦ refl ]

pub returns-clause-last : goal.returns-clause-last
unfolding edited
returns-clause-last c = elim [ V3 ↦ refl | V5 ↦ refl ]

pub returns-clause-there : goal.returns-clause-there
unfolding edited
returns-clause-there c = elim [ V3 ↦ refl | V5 ↦ refl ]
