use Rattle.std.proofs.Common.{refl}
use Rattle.nt_bytes.specs.declared.version.HiveVersion.TheVariants.{V3, V5}
use Rattle.hive_model.specs.Edit.{edited}
use Rattle.hive_examples.proofs.edits.a_value_is_deleted.Goals as goal

pub returns : goal.returns
unfolding edited
returns c = elim [ V3 ↦ refl | V5 ↦ refl ]
