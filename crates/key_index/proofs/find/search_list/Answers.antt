use Rattle.std.proofs.Common.{◌<◌, ◌+◌, ◌-◌, ◌/◌, length, ap, ◌∙◌, arith}
use Rattle.std.specs.Ordering.{is_eq}
use Rattle.key_index.specs.Lists.{offsets_of}
use Rattle.hive_cells.specs.Sources.{cells_of}
use Rattle.key_index.proofs.Finding.{contains_at, tested}
use Rattle.key_index.proofs.find.search_list.Goals as goal

pub returns-in-Equal : goal.returns-in-Equal
returns-in-Equal c =
    let cells = cells_of c.args.cells.now in
    let offsets = offsets_of c.args.list.now in
    let i = c.halves.low + (c.halves.high - c.halves.low) / 2 in
    let lt : i < length offsets = omega arith in
    let t = tested cells c.args.name.now offsets i c.entry-at.result c.compare_name.result c.requires.nodes lt
    c.entry-at.ensures c.compare_name.ensures in
    (contains_at offsets i c.entry-at.result lt c.entry-at.ensures, t ∙ ap is_eq c.in-Equal.is)
