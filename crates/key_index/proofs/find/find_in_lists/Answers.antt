use Rattle.std.proofs.Common.{sym}
use Rattle.key_index.specs.Lists.{offsets_of, offsets_in_lists}
use Rattle.hive_cells.specs.Sources.{cells_of}
use Rattle.key_index.proofs.Finding.{found_is}
use Rattle.key_index.proofs.Below.{all_nodes}
use Rattle.key_index.proofs.find.find_in_lists.Goals as goal

pub returns-in-Some : goal.returns-in-Some
returns-in-Some c =
    let cells = cells_of c.args.cells.now in
    let lists = offsets_of c.args.list.now in
    sym (found_is cells c.args.name.now (offsets_in_lists cells lists) c.in-Some.at
    (all_nodes cells lists c.requires.lists) c.requires.apart c.in-Some.ensures)
