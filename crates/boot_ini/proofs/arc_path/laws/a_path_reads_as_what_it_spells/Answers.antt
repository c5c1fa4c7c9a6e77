use Rattle.boot_ini.proofs.Found.{read_is_spelled}
use Rattle.boot_ini.proofs.Meant.{spelled_is_read, text_spells}
use Rattle.boot_ini.proofs.arc_path.laws.a_path_reads_as_what_it_spells.Goals as goal

pub returns : goal.returns
returns c = record { reads = spelled_is_read; spelled = read_is_spelled; written = text_spells }
