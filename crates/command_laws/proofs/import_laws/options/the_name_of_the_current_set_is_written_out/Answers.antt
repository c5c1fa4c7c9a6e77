use Rattle.command_laws.proofs.OptionLemmas.{line_written, key_written, set_written, said_before, none_named}
use Rattle.command_laws.proofs.import_laws.options.the_name_of_the_current_set_is_written_out.Goals as goal

pub returns-clause-lines : goal.returns-clause-lines
returns-clause-lines c = line_written

pub returns-clause-keys : goal.returns-clause-keys
returns-clause-keys c = key_written

pub returns-clause-change : goal.returns-clause-change
returns-clause-change c = set_written

pub returns-clause-said : goal.returns-clause-said
returns-clause-said c = said_before

pub returns-clause-none_named : goal.returns-clause-none_named
returns-clause-none_named c = none_named
