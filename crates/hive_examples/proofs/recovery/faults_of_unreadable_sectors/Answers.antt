use Rattle.std.proofs.Common.{refl}
use Rattle.hive_model.specs.Base.{mixed_words, head_text, summed_text, base_text, base_of, fields_of}
use Rattle.hive_model.specs.Log.{bitmap_text, log_of}
use Rattle.hive_model.specs.Recovery.{sector, bit, recovered_of}
use Rattle.hive_laws.specs.hive_laws.Samples.{before, after, file_of}
use Rattle.hive_examples.proofs.recovery.faults_of_unreadable_sectors.Goals as goal

pub returns-clause-bins : goal.returns-clause-bins
unfolding mixed_words head_text summed_text base_text base_of fields_of bitmap_text log_of sector bit recovered_of
    before after file_of
returns-clause-bins c = refl

pub returns-clause-base : goal.returns-clause-base
unfolding mixed_words head_text summed_text base_text base_of fields_of bitmap_text log_of sector bit recovered_of
    before after file_of
returns-clause-base c = refl

pub returns-clause-bits : goal.returns-clause-bits
unfolding mixed_words head_text summed_text base_text base_of fields_of bitmap_text log_of sector bit recovered_of
    before after file_of
returns-clause-bits c = refl

pub returns-clause-marked : goal.returns-clause-marked
unfolding mixed_words head_text summed_text base_text base_of fields_of bitmap_text log_of sector bit recovered_of
    before after file_of
returns-clause-marked c = refl

pub returns-clause-unmarked : goal.returns-clause-unmarked
unfolding mixed_words head_text summed_text base_text base_of fields_of bitmap_text log_of sector bit recovered_of
    before after file_of
returns-clause-unmarked c = refl

pub returns-clause-no_log : goal.returns-clause-no_log
unfolding mixed_words head_text summed_text base_text base_of fields_of bitmap_text log_of sector bit recovered_of
    before after file_of
returns-clause-no_log c = refl

pub returns-clause-numbers : goal.returns-clause-numbers
unfolding mixed_words head_text summed_text base_text base_of fields_of bitmap_text log_of sector bit recovered_of
    before after file_of
returns-clause-numbers c = refl
