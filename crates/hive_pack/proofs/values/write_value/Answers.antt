use Rattle.std.proofs.Common.{◌≡◌, ◌++◌, List, ℕ, length, ap, ◌∙◌, arith}
use Rattle.hive_model.specs.KeyValue.{key_value_text}
use Rattle.hive_model.specs.Size.{data_size}
use Rattle.hive_model.specs.Packed.{text, cell_text, item_form, data_cells}
use Rattle.hive_pack.proofs.Rows.{data_few}
use Rattle.reg_tree.proofs.Outcomes.{on_ok}
use Rattle.hive_pack.proofs.Written.{data_at, value_written}
use Rattle.hive_pack.proofs.values.write_value.Goals as goal
use Rattle.hive_pack.proofs.values.write_value.Goals.{In_ok-put_cell}

-- the value's cell was written
cell_is : (c : In_ok-put_cell) → c.put_cell.new.out
    ≡ c.args.out.now ++ cell_text (key_value_text (item_form (length c.args.out.now) c.args.value.now))
cell_is c =
    c.in_ok-put_cell.ensures
    ∙ ap (λ (p : List ℕ). c.args.out.now ++ cell_text p)
    (c.as_slice.ensures ∙ c.in_ok-cell.ensures
    ∙ ap key_value_text (c.in_ok-form.ensures ∙ ap (λ n. item_form n c.args.value.now) c.len.ensures))

pub value_form-requires-clause-place : goal.value_form-requires-clause-place
value_form-requires-clause-place c = omega (arith, c.len.ensures, c.requires.room)

pub value_form-requires-clause-bytes : goal.value_form-requires-clause-bytes
value_form-requires-clause-bytes c = data_few c.args.version c.args.value.now.bytes (omega (arith, c.requires.room))

pub write_data-requires : goal.write_data-requires
write_data-requires c =
    omega (
      arith,
      c.len-data.ensures,
      data_at c.args.out.now c.put_cell.new.out c.args.value.now (cell_is (goal.at.write_data-requires c).In_ok-put_cell),
      ap (λ (b : List ℕ). data_size c.args.version b) c.data.ensures,
      c.requires.room,
    )

pub returns : goal.returns
returns c =
    on_ok c.write_data.result _ _
    (λ e. value_written c.args.version c.args.out.now c.put_cell.new.out c.write_data.new.out c.args.value.now
    (cell_is (goal.at.returns c).In_ok-put_cell)
    (e ∙ (λ j. c.put_cell.new.out ++ text (data_cells c.args.version (c.len-data.ensures j) (c.data.ensures j)))))
    c.write_data.ensures
