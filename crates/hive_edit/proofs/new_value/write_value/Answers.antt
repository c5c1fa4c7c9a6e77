use Rattle.std.proofs.Common.{◌+◌, ℕ, length, ap, ◌∙◌, arith}
use Rattle.hive_model.specs.Size.{cell}
use Rattle.edited_cells.specs.Done.{item}
use Rattle.reg_tree.proofs.Outcomes.{on_ok}
use Rattle.hive_pack.proofs.Rows.{length_value}
use Rattle.hive_edit.proofs.NewRunLemmas.{value_written}
use Rattle.hive_edit.proofs.new_value.write_value.Goals as goal

pub put_cell-requires : goal.put_cell-requires
put_cell-requires c =
    let v = item c.args.name.now c.args.kind c.args.bytes.now in
    omega (arith, ap length (c.as_slice.ensures ∙ c.in_ok-value.ensures), length_value c.args.at v, c.requires.room)

pub returns : goal.returns
returns c =
    let v = item c.args.name.now c.args.kind c.args.bytes.now in
    let behind = ap (λ (n : ℕ). c.args.at + n)
    (c.cell_size.ensures ∙ ap (λ (n : ℕ). cell (20 + n)) c.name_len.ensures) in
    on_ok c.write_data.result _ _
    (λ e. value_written c.args.version c.args.at (c.args.at + c.cell_size.result)
    v c.args.out.now c.put_cell.new.out c.write_data.new.out c.as_slice.result.now
    (c.as_slice.ensures ∙ c.in_ok-value.ensures) c.in_ok-put_cell.ensures behind e)
    c.write_data.ensures
