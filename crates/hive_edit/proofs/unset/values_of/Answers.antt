use Rattle.std.proofs.Common.{◌≡◌, ◌≤◌, List, length, sym, ap, ◌∙◌, arith}
use Rattle.hive_model.specs.Bins.{Bin, look_up}
use Rattle.hive_model.specs.KeyNode.{key_node_at}
use Rattle.hive_model.specs.Walk.{reading}
use Rattle.key_index.specs.Lists.{payload_in}
use Rattle.hive_edit.proofs.UnsetLemmas.{node_numbers}
use Rattle.hive_edit.proofs.unset.values_of.Goals as goal
use Rattle.hive_edit.proofs.unset.values_of.Goals.{After-payload-node}
use Rattle.key_index.proofs.Tests.{value_of}

-- the node is the key's, and long enough
read : (c : After-payload-node)
    → c.payload-node.result.now ≡ payload_in (look_up c.args.version c.args.heap.now.bins) c.args.key
read c =
    c.payload-node.ensures ∙ ap (λ (bs : List Bin). payload_in (look_up c.args.version bs) c.args.key) c.cells.ensures

long : (c : After-payload-node) → 76 ≤ length c.payload-node.result.now
long c =
    let cells = look_up c.args.version c.args.heap.now.bins in
    let n = value_of (reading key_node_at cells c.args.key) c.requires in
    (node_numbers cells c.args.key c.payload-node.result.now n.0 n.1 (read c)).0

pub u32_at-requires : goal.u32_at-requires
u32_at-requires c = omega (arith, long (goal.at.u32_at-requires c).After-payload-node)

pub u32_at-requires-2 : goal.u32_at-requires-2
u32_at-requires-2 c = omega (arith, long (goal.at.u32_at-requires-2 c).After-payload-node)

pub returns : goal.returns
returns c = λ n r.
    let f = node_numbers (look_up c.args.version c.args.heap.now.bins) c.args.key c.payload-node.result.now n r
    (read (goal.at.returns c).After-payload-node) in
    (c.u32_at.ensures ∙ sym f.1, c.u32_at-2.ensures ∙ sym f.2)
