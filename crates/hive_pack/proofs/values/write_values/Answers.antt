use Rattle.std.proofs.Common.{◌≡◌, List, ℕ, length, refl, ap, ◌∙◌, arith}
use Rattle.std.proofs.lemmas.List.{length-append}
use Rattle.hive_model.specs.Lists.{offsets_text}
use Rattle.hive_model.specs.Packed.{text, cell_text, cells_of_items, item_places}
use Rattle.hive_pack.proofs.Rows.{length_values_list, length_cell}
use Rattle.hive_pack.proofs.Written.{values_written, values_room, length-zeros, zeros}
use Rattle.hive_pack.proofs.values.write_values.Goals as goal
use Rattle.hive_pack.proofs.values.write_values.Goals.{After-as_slice-2}

-- the list names where the values stand
list_is : (c : After-as_slice-2) → c.as_slice-2.result.now
    ≡ cell_text (offsets_text (item_places c.args.version (length c.append_zeros.new.self) c.args.values.now))
list_is c =
    c.as_slice-2.ensures ∙ c.in_ok-put_cell.ensures
    ∙ rw (c.new-list.ensures, c.as_slice.ensures, c.in_ok-places.ensures.places) refl

pub put_cell-requires : goal.put_cell-requires
put_cell-requires c =
    omega (
      arith,
      ap (λ (x : List ℕ). length x) (c.as_slice.ensures ∙ c.in_ok-places.ensures.places),
      length_values_list c.args.version (length c.append_zeros.new.self) c.args.values.now,
      values_room c.args.version c.args.values.now (omega arith),
    )

pub overwrite-requires : goal.overwrite-requires
overwrite-requires c =
    let vs = c.args.values.now in
    let kept = c.append_zeros.new.self in
    omega (
      arith,
      ap (λ (x : List ℕ). length x) (list_is (goal.at.overwrite-requires c).After-as_slice-2),
      length_cell (offsets_text (item_places c.args.version (length kept) vs)),
      length_values_list c.args.version (length kept) vs,
      ap (λ (x : List ℕ). length x) c.in_ok-places.ensures.written,
      length-append kept (text (cells_of_items c.args.version (length kept) vs)),
      ap (λ (x : List ℕ). length x) c.in_ok-append_zeros.ensures.ok,
      length-append c.args.out.now (zeros c.cell_size.result),
      length-zeros c.cell_size.result,
      c.cell_size.ensures,
      c.len-at.ensures,
    )

pub returns : goal.returns
returns c =
    values_written c.args.version c.args.out.now c.append_zeros.new.self c.write_each_value.new.out
    c.as_slice-2.result.now c.overwrite.new.self c.len-at.result c.cell_size.result c.args.values.now (omega arith)
    c.len-at.ensures c.cell_size.ensures c.in_ok-append_zeros.ensures.ok
    c.in_ok-places.ensures.written (list_is (goal.at.returns c).After-as_slice-2) c.overwrite.ensures
