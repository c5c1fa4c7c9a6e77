use Rattle.std.proofs.Common.{ap, ◌∙◌}
use Rattle.hive_model.specs.Size.{bulk_of}
use Rattle.hive_read.proofs.One.{one_stands}
use Rattle.hive_cells.specs.Sources.{cells_of}
use Rattle.hive_edit.proofs.HiveLemmas.{no_fault_there}
use Rattle.hive_edit.proofs.LowLemmas.{bulk_there}
use Rattle.hive_edit.proofs.key_size.bulk_at.Goals as goal

pub unreachable-requires : goal.unreachable-requires
unreachable-requires c =
    no_fault_there (cells_of c.args.cells.now) c.args.at c.in-Err-Fault.field-0-0 c.requires.here
    (rw c.in-Err-Fault.field-0-is at c.in-Err-Fault.ensures.exact)

pub returns-in-Ok-clause-exact : goal.returns-in-Ok-clause-exact
returns-in-Ok-clause-exact c = λ t well.
    let j = c.in-Ok.ensures.exact in
    j.bulk ∙ ap (bulk_of c.args.cells.now.version)
    (one_stands (cells_of c.args.cells.now) c.args.at j.tree t j.stands.stands well.stands)

pub returns-in-Ok-clause-low : goal.returns-in-Ok-clause-low
returns-in-Ok-clause-low c =
    let j = c.in-Ok.ensures.exact in
    (bulk_there c.args.cells.now.heap.now c.args.at c.args.cells.now.version c.in-Ok.bulk j.tree j.stands j.valid.keys
    j.bulk c.requires.fits).low
