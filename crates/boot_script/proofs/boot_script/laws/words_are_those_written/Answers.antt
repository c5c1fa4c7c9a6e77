use Rattle.boot_script.proofs.SpellingLemmas.{found, reads}
use Rattle.boot_script.proofs.boot_script.laws.words_are_those_written.Goals as goal

pub returns : goal.returns
returns c = λ words line. (found words line, reads words line)
