use Rattle.std.proofs.Common.{refl}
use Rattle.nt_bytes.specs.declared.version.HiveVersion.TheVariants.{V3, V5}
use Rattle.hive_model.specs.Edit.{edited}
use Rattle.hive_examples.proofs.edits.a_value_is_set.Goals as goal

pub returns-clause-there : goal.returns-clause-there
unfolding edited
returns-clause-there c = elim [ V3 ↦ refl | V5 ↦ refl ]

pub returns-clause-new : goal.returns-clause-new
unfolding edited
returns-clause-new c = elim [ V3 ↦ refl | V5 ↦ refl ]
