use Rattle.std.proofs.Common.{◌∙◌, ap}
use Rattle.command_parts.specs.command_parts.Leaves.{more}
use Rattle.ntboot_cli.proofs.laws.a_run_places_and_takes_the_named_files.Goals as goal

pub returns-clause-placed : goal.returns-clause-placed
returns-clause-placed c = λ form inputs woken taken after old new r. r.settles.placings ∙ r.reports.grew.placings

pub returns-clause-taken : goal.returns-clause-taken
returns-clause-taken c = λ form inputs woken taken after old new r. r.settles.takings
    ∙ ap (more taken) r.reports.grew.takings

pub returns-clause-placed_front : goal.returns-clause-placed_front
returns-clause-placed_front c = λ form run files after old new r. r.grew.placings

pub returns-clause-untaken_front : goal.returns-clause-untaken_front
returns-clause-untaken_front c = λ form run files after old new r. r.grew.takings
