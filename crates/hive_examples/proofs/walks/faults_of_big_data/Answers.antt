use Rattle.std.proofs.Common.{refl}
use Rattle.hive_model.specs.Forms.{bytes_in}
use Rattle.hive_model.specs.BigData.{big_data_at, big_data_text}
use Rattle.hive_model.specs.Lists.{offsets_in}
use Rattle.hive_model.specs.Walk.{big_data_of, big_checks, data_checks}
use Rattle.hive_model.specs.Stands.{big_bytes_at, data_of}
use Rattle.hive_examples.proofs.walks.faults_of_big_data.Goals as goal

pub returns-clause-none : goal.returns-clause-none
unfolding bytes_in big_data_at big_data_text big_data_of offsets_in big_checks data_checks big_bytes_at data_of
returns-clause-none c = refl

pub returns-clause-more : goal.returns-clause-more
unfolding bytes_in big_data_at big_data_text big_data_of offsets_in big_checks data_checks big_bytes_at data_of
returns-clause-more c = refl

pub returns-clause-less : goal.returns-clause-less
unfolding bytes_in big_data_at big_data_text big_data_of offsets_in big_checks data_checks big_bytes_at data_of
returns-clause-less c = refl

pub returns-clause-list : goal.returns-clause-list
unfolding bytes_in big_data_at big_data_text big_data_of offsets_in big_checks data_checks big_bytes_at data_of
returns-clause-list c = refl

pub returns-clause-first : goal.returns-clause-first
unfolding bytes_in big_data_at big_data_text big_data_of offsets_in big_checks data_checks big_bytes_at data_of
returns-clause-first c = refl

pub returns-clause-last : goal.returns-clause-last
unfolding bytes_in big_data_at big_data_text big_data_of offsets_in big_checks data_checks big_bytes_at data_of
returns-clause-last c = refl

pub returns-clause-twice : goal.returns-clause-twice
unfolding bytes_in big_data_at big_data_text big_data_of offsets_in big_checks data_checks big_bytes_at data_of
returns-clause-twice c = refl

pub returns-clause-one_cell : goal.returns-clause-one_cell
unfolding bytes_in big_data_at big_data_text big_data_of offsets_in big_checks data_checks big_bytes_at data_of
returns-clause-one_cell c = refl
