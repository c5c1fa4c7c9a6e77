use Rattle.command_laws.proofs.MadeLemmas.{made_saved, file_saved}
use Rattle.command_laws.proofs.made_laws.saved.a_made_hive_is_saved_as_its_run_leaves_it.Goals as goal

pub returns-clause-held : goal.returns-clause-held
returns-clause-held c = λ usual count saved disk hive log made is. made_saved usual count saved disk hive log made is

pub returns-clause-file : goal.returns-clause-file
returns-clause-file c = λ words json old new disk name hive log top tells saves is.
    file_saved words json old new disk name hive log top tells saves is
