use Rattle.std.proofs.Common.{◌-◌}
use Rattle.hive_edit.specs.Making.{child_fields}
use Rattle.hive_edit.specs.Dropped.{AreShortened}
use Rattle.hive_edit.proofs.DroppedLemmas.{still_droppable}
use Rattle.hive_edit.proofs.dropping.take_child.Goals as goal

pub drop_uses-requires : goal.drop_uses-requires
drop_uses-requires c =
    let old = c.args.heap.now.bins in
    let s : AreShortened c.args.version c.args.above c.args.child old c.shorten.new.heap.bins c.in-Some.list =
    rw c.in-Some.is at c.in_ok-shorten.ensures.exact in
    still_droppable c.args.version c.args.parent c.args.above c.args.child c.args.uses.now old c.shorten.new.heap.bins
    c.note.new.heap.bins c.in-Some.list
    (child_fields (c.args.above.count - 1) c.args.above.volatile c.in-Some.list) c.requires s c.note.ensures.written
