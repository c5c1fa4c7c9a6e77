use Rattle.std.proofs.Common.{refl}
use Rattle.hive_model.specs.Base.{mixed_words, head_text, summed_text, base_text, base_of, fields_of}
use Rattle.hive_model.specs.Recovery.{sector, bit, recovered_of}
use Rattle.hive_laws.specs.hive_laws.Samples.{before, file_of}
use Rattle.hive_examples.proofs.recovery.faults_of_a_primary.Goals as goal

pub returns-clause-empty : goal.returns-clause-empty
unfolding mixed_words head_text summed_text base_text base_of fields_of sector bit recovered_of before file_of
returns-clause-empty c = refl

pub returns-clause-sign : goal.returns-clause-sign
unfolding mixed_words head_text summed_text base_text base_of fields_of sector bit recovered_of before file_of
returns-clause-sign c = refl

pub returns-clause-sum : goal.returns-clause-sum
unfolding mixed_words head_text summed_text base_text base_of fields_of sector bit recovered_of before file_of
returns-clause-sum c = refl

pub returns-clause-short : goal.returns-clause-short
unfolding mixed_words head_text summed_text base_text base_of fields_of sector bit recovered_of before file_of
returns-clause-short c = refl
