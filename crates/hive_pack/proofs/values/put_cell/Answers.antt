use Rattle.hive_pack.proofs.Rows.{cell_written}
use Rattle.reg_tree.proofs.Outcomes.{on_ok}
use Rattle.hive_pack.proofs.values.put_cell.Goals as goal

pub returns : goal.returns
returns c =
    on_ok c.append_zeros.result _ _
    (λ e. cell_written c.args.out.now c.put_u32.new.self c.append.new.self c.append_zeros.new.self c.args.payload.now
    c.cell_size-size.result c.cell_size-size.ensures c.in_ok-put_u32.ensures.ok c.in_ok-append.ensures.ok e)
    c.append_zeros.ensures.ok
