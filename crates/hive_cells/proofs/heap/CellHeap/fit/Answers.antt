use Rattle.std.proofs.Common.{◌*◌, ◌<◌, subst, arith}
use Rattle.hive_model.specs.Bins.{IsHeap}
use Rattle.hive_cells.proofs.Steps.{kept_seen}
use Rattle.hive_cells.proofs.SizeLemmas.{length_bins, none_fits, fit_is}
use Rattle.hive_cells.proofs.heap.CellHeap.fit.Goals as goal
use Rattle.hive_cells.proofs.heap.CellHeap.fit.Goals.{After-self, In_ok-slot}

heap : (c : After-self) → IsHeap c.args.self.now
heap c =
    subst IsHeap c.self.view_is (kept_seen c.self.inside.bytes.items c.self.inside.starts.items c.self.invariant).0

-- the cell begins in the bins data
bound : (c : In_ok-slot) → 8 * c.in_ok-slot.slot < 16777216
bound c =
    let h = heap (goal.at.In_ok-slot c).After-self in
    omega (arith, c.in_ok-slot.ensures.below, length_bins c.args.self.now h.each, h.small)

pub returns-in_err-slot : goal.returns-in_err-slot
returns-in_err-slot c =
    rw c.from_residual.ensures
    (none_fits c.args.self.now c.args.size (heap (goal.at.returns-in_err-slot c).After-self).each c.requires.some
    c.in_err-slot.ensures)

pub overflow_cast-result : goal.overflow_cast-result
overflow_cast-result c = omega (arith, bound (goal.at.overflow_cast-result c).In_ok-slot)

pub overflow_mul-result : goal.overflow_mul-result
overflow_mul-result c = omega (arith, bound (goal.at.overflow_mul-result c).In_ok-slot)

pub returns : goal.returns
returns c =
    fit_is c.args.self.now c.args.size c.in_ok-slot.slot (heap (goal.at.returns c).After-self).each c.requires.some
    c.in_ok-slot.ensures
