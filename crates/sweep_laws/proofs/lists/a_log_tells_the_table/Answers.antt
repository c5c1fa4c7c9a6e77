use Rattle.sweep_laws.proofs.LogLemmas.{bitmap_told, sectors_told}
use Rattle.sweep_laws.proofs.lists.a_log_tells_the_table.Goals as goal

pub returns-clause-bitmap : goal.returns-clause-bitmap
returns-clause-bitmap c = λ before base old new root bits rest is. bitmap_told is rest

pub returns-clause-sectors : goal.returns-clause-sectors
returns-clause-sectors c = λ before base old new root bits rest is. sectors_told is rest
