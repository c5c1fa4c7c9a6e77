use Rattle.std.proofs.Common.{sym}
use Rattle.key_index.specs.Lists.{offsets_of}
use Rattle.hive_cells.specs.Sources.{cells_of}
use Rattle.key_index.proofs.Finding.{found_is}
use Rattle.key_index.proofs.find.find_in_list.Goals as goal

pub returns-in-Some : goal.returns-in-Some
returns-in-Some c =
    sym (found_is (cells_of c.args.cells.now) c.args.name.now (offsets_of c.args.list.now)
    c.in-Some.at c.requires.nodes c.requires.apart c.in-Some.ensures)
