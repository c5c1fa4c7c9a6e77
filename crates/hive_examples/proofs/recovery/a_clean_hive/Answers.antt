use Rattle.std.proofs.Common.{refl}
use Rattle.hive_model.specs.Base.{mixed_words, head_text, summed_text, base_text, base_of, fields_of}
use Rattle.hive_model.specs.Log.{bitmap_text, log_of}
use Rattle.hive_model.specs.Recovery.{sector, bit, recovered_of}
use Rattle.hive_laws.specs.hive_laws.Samples.{before, after, file_of}
use Rattle.hive_examples.proofs.recovery.a_clean_hive.Goals as goal

pub returns-clause-alone : goal.returns-clause-alone
unfolding mixed_words head_text summed_text base_text base_of fields_of bitmap_text log_of sector bit recovered_of
    before after file_of
returns-clause-alone c = refl

pub returns-clause-beside_a_log : goal.returns-clause-beside_a_log
unfolding mixed_words head_text summed_text base_text base_of fields_of bitmap_text log_of sector bit recovered_of
    before after file_of
returns-clause-beside_a_log c = refl
