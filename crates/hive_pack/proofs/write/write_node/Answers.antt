use Rattle.std.proofs.Common.{List, ℕ, length, ap, ◌∙◌, arith}
use Rattle.hive_model.specs.Tree.{head, children}
use Rattle.hive_model.specs.KeyNode.{key_node_text}
use Rattle.hive_pack.specs.Writes.{above}
use Rattle.hive_pack.proofs.Rows.{length_node}
use Rattle.hive_pack.proofs.Written.{size_parted}
use Rattle.hive_pack.proofs.write.write_node.Goals as goal

pub put_cell-requires : goal.put_cell-requires
put_cell-requires c =
    let t = c.args.key.now in
    omega (
      arith,
      ap (λ (x : List ℕ). length x) (c.as_slice.ensures ∙ c.in_ok-cell.ensures ∙ ap key_node_text c.in_ok-form.ensures),
      length_node c.args.version (above c.args.up) c.len.result (head t) (children t),
      size_parted c.args.version c.args.up.security.now t,
      c.requires.room,
    )
