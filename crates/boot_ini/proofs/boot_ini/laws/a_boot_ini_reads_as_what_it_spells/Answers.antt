use Rattle.boot_ini.proofs.MeaningLemmas.{ini_found, ini_read}
use Rattle.boot_ini.proofs.boot_ini.laws.a_boot_ini_reads_as_what_it_spells.Goals as goal

pub returns : goal.returns
returns c = record { reads = ini_read; spelled = ini_found }
