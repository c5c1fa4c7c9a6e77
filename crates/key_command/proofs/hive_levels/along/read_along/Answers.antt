use Rattle.hive_cells.specs.Sources.{cells_of}
use Rattle.key_command.specs.hive_levels.Cut.{along}
use Rattle.key_command.specs.hive_levels.Reading.{along_at}
use Rattle.key_command.proofs.CutLemmas.{along_read, shown}
use Rattle.key_command.proofs.hive_levels.along.read_along.Goals as goal

pub returns : goal.returns
returns c = λ t s.
    let path = c.args.path.now in
    let n = c.args.levels in
    let cells = cells_of c.args.cells.now in
    shown (along path n t) (along_at path n cells c.args.root) c.read_path.result
    (along_read path n cells c.args.root t s) (rw c.as_slice.ensures at c.read_path.ensures)
