use Rattle.boot_ini.proofs.Found.{read_is_path}
use Rattle.boot_ini.proofs.Meant.{text_spells, spelled_is_read}
use Rattle.boot_ini.specs.arc_path.Spelling.{text_of}
use Rattle.boot_ini.proofs.arc_path.laws.a_path_is_read_again.Goals as goal

pub returns : goal.returns
returns c = λ a text e. spelled_is_read (text_of a) a (text_spells a (read_is_path text a e))
