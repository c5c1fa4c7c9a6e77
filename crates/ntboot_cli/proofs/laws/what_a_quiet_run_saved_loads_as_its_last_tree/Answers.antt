use Rattle.ntboot_cli.proofs.SavedLemmas.{quiet_saved}
use Rattle.ntboot_cli.proofs.laws.what_a_quiet_run_saved_loads_as_its_last_tree.Goals as goal

pub returns : goal.returns
returns c = λ form inputs placed count before after old new hive log r cuts faults primary.
    quiet_saved form inputs placed count before after old new hive log r cuts faults primary
