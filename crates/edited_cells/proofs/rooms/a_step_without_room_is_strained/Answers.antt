use Rattle.edited_cells.proofs.Grown.{no_room_behind}
use Rattle.edited_cells.proofs.rooms.a_step_without_room_is_strained.Goals as goal

pub returns : goal.returns
returns c = no_room_behind
