use Rattle.std.proofs.Common.{refl}
use Rattle.hive_model.specs.Forms.{bytes_in}
use Rattle.hive_model.specs.BigData.{big_data_at, big_data_text}
use Rattle.hive_model.specs.Lists.{offsets_in}
use Rattle.hive_model.specs.Walk.{big_data_of, big_checks, data_checks}
use Rattle.hive_model.specs.Stands.{big_bytes_at, data_of}
use Rattle.hive_examples.proofs.walks.big_data_are_read.Goals as goal

pub returns-clause-joined : goal.returns-clause-joined
unfolding bytes_in big_data_at big_data_text big_data_of offsets_in big_checks data_checks big_bytes_at data_of
returns-clause-joined c = refl

pub returns-clause-uses : goal.returns-clause-uses
unfolding bytes_in big_data_at big_data_text big_data_of offsets_in big_checks data_checks big_bytes_at data_of
returns-clause-uses c = refl

pub returns-clause-one_cell : goal.returns-clause-one_cell
unfolding bytes_in big_data_at big_data_text big_data_of offsets_in big_checks data_checks big_bytes_at data_of
returns-clause-one_cell c = refl

pub returns-clause-one_use : goal.returns-clause-one_use
unfolding bytes_in big_data_at big_data_text big_data_of offsets_in big_checks data_checks big_bytes_at data_of
returns-clause-one_use c = refl
