use Rattle.std.proofs.Common.{ℕ, List, get_or, length, refl, ap, ◌∙◌, arith}
use Rattle.hive_cells.specs.Reading.{bins_of}
use Rattle.hive_cells.specs.Holes.{free_sizes}
use Rattle.hive_cells.proofs.GrowLemmas.{sizes}
use Rattle.hive_cells.proofs.Indexed.{indexed}
use Rattle.hive_cells.proofs.heap.CellHeapNumbers.number_at.Goals as goal

pub free_at-requires-clause-inside : goal.free_at-requires-clause-inside
free_at-requires-clause-inside c =
    let z = sizes c.self.inside.bytes.items c.self.inside.starts.items (free_sizes c.args.self.now)
    (indexed c.self.invariant c.self.view_is refl) in
    omega (arith, c.requires, z.flags, z.slots, ap length c.as_slice-2.ensures.value)

pub returns : goal.returns
returns c =
    c.free_at.ensures
    ∙ ap (λ (t : List ℕ). get_or (free_sizes (bins_of t)) c.args.slot 0) c.as_slice.ensures.value
    ∙ ap (λ b. get_or (free_sizes b) c.args.slot 0) c.self.view_is
