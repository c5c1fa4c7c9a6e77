use Rattle.std.proofs.Common.{refl}
use Rattle.hive_model.specs.Base.{mixed_words, head_text, summed_text, base_text, base_of, fields_of}
use Rattle.hive_model.specs.Log.{bitmap_text, log_of}
use Rattle.hive_model.specs.Recovery.{sector}
use Rattle.hive_laws.specs.hive_laws.Samples.{before, longer}
use Rattle.hive_examples.proofs.logs.a_log_of_longer_data.Goals as goal

pub returns-clause-bits : goal.returns-clause-bits
unfolding mixed_words head_text summed_text base_text base_of fields_of bitmap_text log_of sector before longer
returns-clause-bits c = refl

pub returns-clause-sectors : goal.returns-clause-sectors
unfolding mixed_words head_text summed_text base_text base_of fields_of bitmap_text log_of sector before longer
returns-clause-sectors c = refl
