use Rattle.std.proofs.Common.{refl}
use Rattle.hive_model.specs.Base.{mixed_words, head_text, summed_text, base_text, base_of, fields_of}
use Rattle.hive_examples.proofs.base.the_checksum_of_a_root_alone.Goals as goal

pub returns-clause-sum : goal.returns-clause-sum
unfolding summed_text head_text mixed_words
returns-clause-sum c = refl

pub returns-clause-later : goal.returns-clause-later
unfolding summed_text head_text mixed_words
returns-clause-later c = refl

pub returns-clause-opened : goal.returns-clause-opened
unfolding summed_text head_text mixed_words
returns-clause-opened c = refl

pub returns-clause-read : goal.returns-clause-read
unfolding summed_text head_text base_text base_of fields_of mixed_words
returns-clause-read c = refl
