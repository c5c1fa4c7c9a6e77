use Rattle.std.proofs.Common.{refl, arith}
use Rattle.hive_model.specs.KeyNode.{key_node_in}
use Rattle.cell_forms.specs.Views.{name_of}
use Rattle.cell_forms.proofs.Nodes.{node_read}
use Rattle.cell_forms.proofs.key_node.see_name.Goals as goal

pub returns-clause-read : goal.returns-clause-read
returns-clause-read c =
    node_read _ (name_of c.in_ok-name.name) _ (key_node_in c.args.payload.now (name_of c.in_ok-name.name))
    _ _ _ c.u16_at.ensures (omega (arith, c.if-u16_at-ne27502.false)) c.u16_at-2.ensures
    (omega (arith, c.if-payload-end.false)) c.u16_at-3.ensures c.is_narrow-is_narrow.ensures
    (rw c.from-end.ensures at c.in_ok-name.ensures.exact) refl
