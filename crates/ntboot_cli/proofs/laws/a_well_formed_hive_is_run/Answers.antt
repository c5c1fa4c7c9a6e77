use Rattle.ntboot_cli.proofs.RunLemmas.{well_formed_runs}
use Rattle.ntboot_cli.proofs.laws.a_well_formed_hive_is_run.Goals as goal

pub returns : goal.returns
returns c = λ form inputs saves placed disk status old new loads ends.
    well_formed_runs form inputs saves placed disk status old new loads ends
