use Rattle.std.proofs.Common.{refl}
use Rattle.hive_model.specs.Base.{mixed_words, head_text, summed_text, base_text, base_of, fields_of}
use Rattle.hive_model.specs.Recovery.{sector, bit, recovered_of}
use Rattle.hive_laws.specs.hive_laws.Samples.{before, file_of}
use Rattle.hive_examples.proofs.recovery.faults_of_a_base_block.Goals as goal

pub returns-clause-major : goal.returns-clause-major
unfolding mixed_words head_text summed_text base_text base_of fields_of sector bit recovered_of before file_of
returns-clause-major c = refl

pub returns-clause-minor : goal.returns-clause-minor
unfolding mixed_words head_text summed_text base_text base_of fields_of sector bit recovered_of before file_of
returns-clause-minor c = refl

pub returns-clause-kind : goal.returns-clause-kind
unfolding mixed_words head_text summed_text base_text base_of fields_of sector bit recovered_of before file_of
returns-clause-kind c = refl

pub returns-clause-no_bins : goal.returns-clause-no_bins
unfolding mixed_words head_text summed_text base_text base_of fields_of sector bit recovered_of before file_of
returns-clause-no_bins c = refl

pub returns-clause-more_bins : goal.returns-clause-more_bins
unfolding mixed_words head_text summed_text base_text base_of fields_of sector bit recovered_of before file_of
returns-clause-more_bins c = refl
