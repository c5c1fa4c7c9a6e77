-- Only the length of the data is looked at.
use Rattle.nt_bytes.specs.declared.version.HiveVersion.TheVariants.{V3, V5}
use Rattle.hive_examples.proofs.sizes.a_value_of_two_segments.Goals as goal

pub returns-clause-one : goal.returns-clause-one
returns-clause-one c = elim [ V3 ↦ λ bytes long. rw long | V5 ↦ λ bytes long. rw long ]

pub returns-clause-one_cell : goal.returns-clause-one_cell
returns-clause-one_cell c = λ bytes long. rw long

pub returns-clause-two_segments : goal.returns-clause-two_segments
returns-clause-two_segments c = λ bytes long. rw long
