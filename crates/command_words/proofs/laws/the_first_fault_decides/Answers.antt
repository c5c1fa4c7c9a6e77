use Rattle.command_words.proofs.LawLemmas.{first_fault}
use Rattle.command_words.proofs.laws.the_first_fault_decides.Goals as goal

pub returns : goal.returns
returns c = first_fault
