use Rattle.std.proofs.Common.{refl}
use Rattle.hive_model.specs.Base.{mixed_words, head_text, summed_text, base_text, base_of, fields_of}
use Rattle.hive_model.specs.Log.{bitmap_text, log_of}
use Rattle.hive_model.specs.Recovery.{sector, bit, recovered_of}
use Rattle.hive_laws.specs.hive_laws.Samples.{before, after, file_of}
use Rattle.hive_examples.proofs.recovery.faults_of_a_log.Goals as goal

pub returns-clause-absent : goal.returns-clause-absent
unfolding mixed_words head_text summed_text base_text base_of fields_of bitmap_text log_of sector bit recovered_of
    before after file_of
returns-clause-absent c = refl

pub returns-clause-kind : goal.returns-clause-kind
unfolding mixed_words head_text summed_text base_text base_of fields_of bitmap_text log_of sector bit recovered_of
    before after file_of
returns-clause-kind c = refl

pub returns-clause-numbers : goal.returns-clause-numbers
unfolding mixed_words head_text summed_text base_text base_of fields_of bitmap_text log_of sector bit recovered_of
    before after file_of
returns-clause-numbers c = refl

pub returns-clause-no_bits : goal.returns-clause-no_bits
unfolding mixed_words head_text summed_text base_text base_of fields_of bitmap_text log_of sector bit recovered_of
    before after file_of
returns-clause-no_bits c = refl

pub returns-clause-dirt : goal.returns-clause-dirt
unfolding mixed_words head_text summed_text base_text base_of fields_of bitmap_text log_of sector bit recovered_of
    before after file_of
returns-clause-dirt c = refl

pub returns-clause-short : goal.returns-clause-short
unfolding mixed_words head_text summed_text base_text base_of fields_of bitmap_text log_of sector bit recovered_of
    before after file_of
returns-clause-short c = refl

pub returns-clause-sign : goal.returns-clause-sign
unfolding mixed_words head_text summed_text base_text base_of fields_of bitmap_text log_of sector bit recovered_of
    before after file_of
returns-clause-sign c = refl

pub returns-clause-last : goal.returns-clause-last
unfolding mixed_words head_text summed_text base_text base_of fields_of bitmap_text log_of sector bit recovered_of
    before after file_of
returns-clause-last c = refl
