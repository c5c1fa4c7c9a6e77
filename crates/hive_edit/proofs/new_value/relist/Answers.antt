use Rattle.std.proofs.Common.{ap, length}
use Rattle.hive_edit.proofs.NewCellsLemmas.{node_room}
use Rattle.hive_edit.proofs.new_value.relist.Goals as goal

pub patch-requires : goal.patch-requires
patch-requires c =
    node_room c.args.place c.args.key (length c.two_fields-fields.result)
    c.args.run.now c.args.heap.now.bins c.put_run.new.heap.bins c.requires.run c.in_ok-put_run.ensures.put c.requires.node
    (ap length c.two_fields-fields.ensures)
