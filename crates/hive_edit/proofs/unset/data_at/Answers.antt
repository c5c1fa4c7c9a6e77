use Rattle.std.proofs.Common.{◌≡◌, ◌≤◌, ◌+◌, List, length, ap, ◌∙◌, arith}
use Rattle.nt_bytes.specs.Fields.{u16_in}
use Rattle.hive_model.specs.Bins.{Bin, look_up}
use Rattle.key_index.specs.Lists.{payload_in}
use Rattle.hive_look.proofs.ItemLemmas.{value_long, value_is_there}
use Rattle.hive_edit.proofs.UnsetLemmas.{DataHere, data_here}
use Rattle.hive_edit.proofs.unset.data_at.Goals as goal
use Rattle.hive_edit.proofs.unset.data_at.Goals.{After-payload-value, After-u32_at-place}

-- the payload is the value's, and long enough
read : (c : After-payload-value)
    → c.payload-value.result.now ≡ payload_in (look_up c.args.version c.args.heap.now.bins) c.args.at
read c =
    c.payload-value.ensures ∙ ap (λ (bs : List Bin). payload_in (look_up c.args.version bs) c.args.at) c.cells.ensures

long : (c : After-payload-value) → 20 + u16_in c.payload-value.result.now 2 ≤ length c.payload-value.result.now
long c =
    value_long c.payload-value.result.now
    (value_is_there (look_up c.args.version c.args.heap.now.bins) c.args.at c.payload-value.result.now c.requires (read c))

here : (c : After-u32_at-place) → DataHere (look_up c.args.version c.args.heap.now.bins) c.args.at c.u32_at-size.result
    c.u32_at-place.result
here c =
    data_here (look_up c.args.version c.args.heap.now.bins)
    c.args.at c.payload-value.result.now c.u32_at-size.result c.u32_at-place.result c.requires
    (read (goal.at.After-u32_at-place c).After-payload-value) c.u32_at-size.ensures c.u32_at-place.ensures

pub u32_at-size-requires : goal.u32_at-size-requires
u32_at-size-requires c = omega (arith, long (goal.at.u32_at-size-requires c).After-payload-value)

pub u32_at-place-requires : goal.u32_at-place-requires
u32_at-place-requires c = omega (arith, long (goal.at.u32_at-place-requires c).After-payload-value)

pub returns-clause-data : goal.returns-clause-data
returns-clause-data c = (here (goal.at.returns-clause-data c).After-u32_at-place).reads

pub returns-clause-cells : goal.returns-clause-cells
returns-clause-cells c = (here (goal.at.returns-clause-cells c).After-u32_at-place).cells_are
