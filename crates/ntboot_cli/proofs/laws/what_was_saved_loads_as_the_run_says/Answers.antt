use Rattle.ntboot_cli.proofs.SavedLemmas.{run_saved, made_saved}
use Rattle.ntboot_cli.proofs.laws.what_was_saved_loads_as_the_run_says.Goals as goal

pub returns-clause-run : goal.returns-clause-run
returns-clause-run c = λ form inputs placed count before after old new hive log r.
    run_saved form inputs placed count before after old new hive log r

pub returns-clause-made : goal.returns-clause-made
returns-clause-made c = λ usual count saved disk hive log. made_saved usual count saved disk hive log
