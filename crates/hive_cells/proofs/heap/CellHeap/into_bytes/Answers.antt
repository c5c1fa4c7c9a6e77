use Rattle.std.proofs.Common.{sym, ap, ◌∙◌}
use Rattle.hive_model.specs.Bins.{spelled}
use Rattle.hive_cells.specs.Reading.{bins_of}
use Rattle.hive_cells.proofs.Again.{bins_of_again}
use Rattle.hive_cells.proofs.heap.CellHeap.into_bytes.Goals as goal

pub returns : goal.returns
returns c =
    let i = c.self.invariant in
    c.from_vec.ensures ∙ i.bytes
    ∙ ap (spelled 0) (sym (bins_of_again i.bins i.sound) ∙ ap bins_of (sym i.bytes) ∙ c.self.view_is)
