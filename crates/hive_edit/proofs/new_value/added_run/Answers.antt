use Rattle.std.proofs.Common.{◌++◌, ℕ, List, ap, ◌∙◌, arith}
use Rattle.hive_model.specs.Lists.{numbers_in}
use Rattle.hive_model.specs.Packed.{item_cells, text}
use Rattle.edited_cells.specs.Done.{item}
use Rattle.hive_edit.proofs.GoneLemmas.{numbers_length}
use Rattle.hive_edit.proofs.NewRunLemmas.{list_long, run_written}
use Rattle.hive_edit.proofs.new_value.added_run.Goals as goal

pub put_cell-requires : goal.put_cell-requires
put_cell-requires c =
    let os = numbers_in 4 c.args.count c.args.old.now in
    omega (
      arith,
      list_long os c.as_slice.result.now c.args.place c.args.count (c.as_slice.ensures ∙ c.in_ok-offsets.ensures)
          (numbers_length c.args.count c.args.old.now),
      c.requires.room,
    )

pub returns : goal.returns
returns c =
    let os = numbers_in 4 c.args.count c.args.old.now in
    let v = item c.args.name.now c.args.kind c.args.bytes.now in
    run_written c.args.version c.args.place os v c.write_value.new.out c.put_cell.new.out c.as_slice.result.now
    (c.in_ok-write_value.ensures ∙ ap (λ (xs : List ℕ). xs ++ text (item_cells c.args.version c.args.place v)) c.new-run.ensures)
    (c.as_slice.ensures ∙ c.in_ok-offsets.ensures) c.in_ok-put_cell.ensures
