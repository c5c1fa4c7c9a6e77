use Rattle.edited_cells.proofs.TakenOut.{key_taken_out}
use Rattle.edited_cells.proofs.deletion.a_key_is_taken_out.Goals as goal

pub returns : goal.returns
returns c = key_taken_out
