use Rattle.std.proofs.Common.{true, false, sym, arith}
use Rattle.hive_cells.proofs.IndexLemmas.{pages, slot_none, slot_cell}
use Rattle.hive_cells.proofs.lookup.free_at.Goals as goal

pub overflow_mul-slot : goal.overflow_mul-slot
overflow_mul-slot c =
    let z = pages c.args.bytes.now c.args.starts.now c.requires.kept in
    omega (arith, z.flags, z.small, c.requires.inside)

pub overflow_cast-result : goal.overflow_cast-result
overflow_cast-result c =
    let z = pages c.args.bytes.now c.args.starts.now c.requires.kept in
    omega (arith, z.small, c.in-Some-false-default.ensures.within.1, c.in-Some-false-default.size-is)

pub returns-in-None : goal.returns-in-None
returns-in-None c =
    sym (slot_none c.args.bytes.now c.args.starts.now c.args.slot c.requires.kept c.in-None.ensures.exact)

pub returns-in-Some-true-default : goal.returns-in-Some-true-default
returns-in-Some-true-default c =
    sym (slot_cell c.args.bytes.now c.args.starts.now c.args.slot true c.in-Some-true-default._size c.requires.kept
    (rw c.in-Some-true-default.field-0-0-test at c.in-Some-true-default.ensures.exact))

pub returns-in-Some-false-default : goal.returns-in-Some-false-default
returns-in-Some-false-default c =
    sym (slot_cell c.args.bytes.now c.args.starts.now c.args.slot false c.in-Some-false-default.size c.requires.kept
    (rw c.in-Some-false-default.field-0-0-test at c.in-Some-false-default.ensures.exact))
