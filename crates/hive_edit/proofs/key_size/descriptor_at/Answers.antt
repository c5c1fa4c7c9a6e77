use Rattle.std.proofs.Common.{◌+◌, ap, ◌∙◌, arith}
use Rattle.std.specs.Prelude.{slice_range}
use Rattle.hive_cells.specs.Sources.{cells_of}
use Rattle.hive_look.proofs.NodeLemmas.{node_long}
use Rattle.hive_edit.proofs.PairLemmas.{DescriptorHere, no_descriptor, descriptor_here}
use Rattle.hive_edit.proofs.key_size.descriptor_at.Goals as goal
use Rattle.hive_edit.proofs.key_size.descriptor_at.Goals.{After-payload-security}

pub u32_at-place-requires : goal.u32_at-place-requires
u32_at-place-requires c =
    omega (
      arith,
      node_long (cells_of c.args.cells.now)
          c.args.at c.payload-node.result.now c.requires c.payload-node.ensures,
    )

pub returns-then-place-clause-is : goal.returns-then-place-clause-is
returns-then-place-clause-is c = λ t well.
    no_descriptor (cells_of c.args.cells.now)
    c.args.at c.payload-node.result.now c.u32_at-place.result c.requires c.payload-node.ensures
    c.u32_at-place.ensures
    c.if-place.true t well

here : (c : After-payload-security) → DescriptorHere (cells_of c.args.cells.now) c.args.at c.payload-security.result.now
here c =
    descriptor_here (cells_of c.args.cells.now) c.args.at c.payload-node.result.now c.payload-security.result.now
    c.u32_at-place.result c.requires c.payload-node.ensures c.u32_at-place.ensures c.if-place.false
    c.payload-security.ensures

pub u32_at-requires : goal.u32_at-requires
u32_at-requires c =
    let long = (here (goal.at.u32_at-requires c).After-payload-security).long in omega (arith, long)

pub slice_bounds-result-end-2 : goal.slice_bounds-result-end-2
slice_bounds-result-end-2 c =
    let whole = (here (goal.at.slice_bounds-result-end-2 c).After-payload-security).whole in
    let size = c.u32_at.ensures in
    grind (arith, whole, size)

pub returns-clause-is : goal.returns-clause-is
returns-clause-is c = λ t well.
    ap (λ n. slice_range c.payload-security.result.now 20 (20 + n)) c.u32_at.ensures
    ∙ (here (goal.at.returns-clause-is c).After-payload-security).is t well
