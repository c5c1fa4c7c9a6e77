use Rattle.std.proofs.Common.{refl}
use Rattle.nt_bytes.specs.declared.version.HiveVersion.TheVariants.{V3, V5}
use Rattle.hive_model.specs.Edit.{edited}
use Rattle.hive_examples.proofs.edits.no_step_or_all.Goals as goal

pub returns-clause-in_order : goal.returns-clause-in_order
unfolding edited
returns-clause-in_order c = elim [ V3 ↦ refl | V5 ↦ refl ]

pub returns-clause-refused : goal.returns-clause-refused
unfolding edited
returns-clause-refused c = elim [ V3 ↦ refl | V5 ↦ refl ]
