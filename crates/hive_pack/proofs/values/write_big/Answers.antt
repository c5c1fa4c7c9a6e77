use Rattle.std.proofs.Common.{◌+◌, ◌++◌, List, ℕ, length, refl, ap, ◌∙◌, arith}
use Rattle.hive_model.specs.Size.{segment_count}
use Rattle.hive_model.specs.BigData.{BigData}
use Rattle.hive_model.specs.Packed.{cell_text}
use Rattle.hive_model.proofs.Spelling.{length_big_data}
use Rattle.hive_pack.proofs.Rows.{length_segment_list}
use Rattle.reg_tree.proofs.Outcomes.{on_ok}
use Rattle.hive_pack.proofs.Written.{big_written}
use Rattle.hive_pack.proofs.values.write_big.Goals as goal

pub put_cell-requires : goal.put_cell-requires
put_cell-requires c =
    let form : BigData = record { segments = c.segment_count-count.result; list = c.args.at + 16 } in
    omega (arith, ap (λ (x : List ℕ). length x) (c.as_slice.ensures ∙ c.in_ok-cell.ensures), length_big_data form)

pub put_cell-requires-2 : goal.put_cell-requires-2
put_cell-requires-2 c =
    omega (
      arith,
      ap (λ (x : List ℕ). length x) (c.as_slice-2.ensures ∙ c.in_ok-list.ensures),
      length_segment_list c.segment_count-count.result (c.args.at + 16 + c.cell_size.result),
      c.segment_count-count.ensures,
      c.requires.few,
    )

pub returns : goal.returns
returns c =
    let bytes = c.args.bytes.now in
    let old = c.args.out.now in
    let one = c.put_cell.new.out in
    let two = c.put_cell-2.new.out in
    let k = c.segment_count-count.result in
    let at = c.args.at in
    on_ok c.write_segments.result _ _
    (λ e. big_written bytes old one two c.write_segments.new.out c.args.at k (segment_count (length bytes))
    (c.args.at + 16) (c.args.at + 16 + c.cell_size.result)
    (omega (arith, c.segment_count-count.ensures)) refl (omega (arith, c.cell_size.ensures))
    (c.in_ok-put_cell.ensures ∙ ap (λ (x : List ℕ). old ++ cell_text x) (c.as_slice.ensures ∙ c.in_ok-cell.ensures))
    (c.in_ok-put_cell-2.ensures ∙ ap (λ (x : List ℕ). one ++ cell_text x) (c.as_slice-2.ensures ∙ c.in_ok-list.ensures))
    e)
    c.write_segments.ensures
