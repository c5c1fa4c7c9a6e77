use Rattle.boot_script.proofs.AskLemmas.{script_found, script_read}
use Rattle.boot_script.proofs.boot_script.laws.a_script_reads_as_what_it_spells.Goals as goal

pub returns : goal.returns
returns c = record { reads = script_read; spelled = script_found }
