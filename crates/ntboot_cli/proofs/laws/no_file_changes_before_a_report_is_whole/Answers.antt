use Rattle.ntboot_cli.proofs.RunLemmas.{printed_first}
use Rattle.ntboot_cli.proofs.laws.no_file_changes_before_a_report_is_whole.Goals as goal

pub returns : goal.returns
returns c = λ form inputs placed saves disk old new before after part stops.
    printed_first form inputs placed saves disk old new before after part stops
