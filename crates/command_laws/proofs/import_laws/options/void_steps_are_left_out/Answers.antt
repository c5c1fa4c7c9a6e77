use Rattle.std.proofs.Common.{refl}
use Rattle.command_laws.proofs.ItemLemmas.{root_only}
use Rattle.command_laws.proofs.OptionLemmas.{done_alike, no_value_lacks, all_left}
use Rattle.command_laws.proofs.import_laws.options.void_steps_are_left_out.Goals as goal

pub returns-clause-done : goal.returns-clause-done
returns-clause-done c = done_alike

pub returns-clause-state : goal.returns-clause-state
returns-clause-state c = λ current s made. refl

pub returns-clause-no_value : goal.returns-clause-no_value
returns-clause-no_value c = no_value_lacks

pub returns-clause-no_key : goal.returns-clause-no_key
returns-clause-no_key c = root_only

pub returns-clause-all : goal.returns-clause-all
returns-clause-all c = all_left
