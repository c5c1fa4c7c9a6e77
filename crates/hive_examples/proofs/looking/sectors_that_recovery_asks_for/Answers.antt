use Rattle.std.proofs.Common.{refl}
use Rattle.hive_model.specs.Base.{mixed_words, head_text, summed_text, base_text, base_of, fields_of}
use Rattle.hive_model.specs.Log.{bitmap_text, log_of}
use Rattle.hive_model.specs.Recovery.{sector, bit}
use Rattle.hive_model.specs.Asked.{asked_of}
use Rattle.hive_laws.specs.hive_laws.Samples.{before, after, file_of}
use Rattle.hive_examples.specs.OneDriver.{driver_words, driver_bin, driver_with}
use Rattle.hive_examples.proofs.looking.sectors_that_recovery_asks_for.Goals as goal

pub returns-clause-clean : goal.returns-clause-clean
unfolding mixed_words head_text summed_text base_text base_of fields_of sector asked_of file_of driver_words driver_bin
    driver_with
returns-clause-clean c = refl

pub returns-clause-no_primary : goal.returns-clause-no_primary
unfolding base_of fields_of sector asked_of
returns-clause-no_primary c = refl

pub returns-clause-no_log : goal.returns-clause-no_log
unfolding mixed_words head_text summed_text base_text base_of fields_of sector asked_of before file_of
returns-clause-no_log c = refl

pub returns-clause-logged : goal.returns-clause-logged
unfolding mixed_words head_text summed_text base_text base_of fields_of bitmap_text log_of sector bit asked_of before
    after file_of
returns-clause-logged c = refl

pub returns-clause-unreadable_block : goal.returns-clause-unreadable_block
unfolding mixed_words head_text summed_text base_text base_of fields_of bitmap_text log_of sector bit asked_of before
    after file_of
returns-clause-unreadable_block c = refl

pub returns-clause-unreadable_log : goal.returns-clause-unreadable_log
unfolding mixed_words head_text summed_text base_text base_of fields_of bitmap_text log_of sector bit asked_of before
    after file_of
returns-clause-unreadable_log c = refl
