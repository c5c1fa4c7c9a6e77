use Rattle.std.proofs.Common.{refl}
use Rattle.hive_model.specs.Base.{mixed_words, head_text, summed_text, base_text, base_of, fields_of}
use Rattle.hive_model.specs.Log.{bitmap_text, log_of}
use Rattle.hive_model.specs.Recovery.{sector}
use Rattle.hive_laws.specs.hive_laws.Samples.{before, after}
use Rattle.hive_examples.proofs.logs.a_log_of_one_sector.Goals as goal

pub returns-clause-bits : goal.returns-clause-bits
unfolding mixed_words head_text summed_text base_text base_of fields_of bitmap_text log_of sector before after
returns-clause-bits c = refl

pub returns-clause-head : goal.returns-clause-head
unfolding mixed_words head_text summed_text base_text base_of fields_of bitmap_text log_of sector before after
returns-clause-head c = refl

pub returns-clause-checksum : goal.returns-clause-checksum
unfolding mixed_words head_text summed_text base_text base_of fields_of bitmap_text log_of sector before after
returns-clause-checksum c = refl

pub returns-clause-whole : goal.returns-clause-whole
unfolding mixed_words head_text summed_text base_text base_of fields_of bitmap_text log_of sector before after
returns-clause-whole c = refl

pub returns-clause-long : goal.returns-clause-long
unfolding mixed_words head_text summed_text base_text base_of fields_of bitmap_text log_of sector before after
returns-clause-long c = refl
