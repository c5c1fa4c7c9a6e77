use Rattle.sweep_laws.proofs.CutLemmas.{log_left}
use Rattle.sweep_laws.proofs.FileLemmas.{commit_told}
use Rattle.sweep_laws.proofs.lists.the_log_of_a_commit_tells_its_table.Goals as goal

pub returns-clause-log : goal.returns-clause-log
returns-clause-log c = λ before image base old new bytes root bits is has file. commit_told file is has

pub returns-clause-left : goal.returns-clause-left
returns-clause-left c = λ before base old new bytes root bits is file. commit_told file is (log_left is)
