use Rattle.edited_cells.proofs.Untouched.{are_once}
use Rattle.edited_cells.proofs.owners.each_cell_has_one_owner.Goals as goal

pub returns : goal.returns
returns c = λ cells root t well p q r k o h g. (are_once cells root t well).one p q r k o h g
