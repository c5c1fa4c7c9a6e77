use Rattle.std.proofs.Common.{◌≤◌, ℕ, List, length}
use Rattle.hive_model.specs.Bins.{look_up}
use Rattle.key_index.specs.Lists.{hints_in}
use Rattle.key_index.specs.Relists.{AreRelisted}
use Rattle.hive_edit.specs.Making.{above_lists, above_children}
use Rattle.hive_edit.proofs.LinkLemmas.{kept_and, written_and}
use Rattle.hive_edit.proofs.grafting.link_by.Goals as goal
use Rattle.hive_edit.proofs.grafting.link_by.Goals.{In-Some}

relisted : (c : In-Some) → let old = c.args.heap.now.bins in
    let children = above_children c.args.version c.args.above c.args.child old in
    AreRelisted c.args.version (above_lists c.args.version c.args.above old) children
    (hints_in (look_up c.args.version old) children) old c.insert_child.new.cells.bins c.in-Some.list
relisted c = rw c.in-Some.is at c.in_ok-insert_child.ensures.exact

pub raise_by-requires : goal.raise_by-requires
raise_by-requires c = λ used.
    written_and c.args.parent 20 _ c.insert_child.new.cells.bins c.note.new.heap.bins c.args.above.security
    (λ (p : List ℕ). 20 ≤ length p) c.note.ensures.written
    (c.requires.linkable.security_parent used)
    (kept_and c.args.version _ _ _ c.args.heap.now.bins c.insert_child.new.cells.bins c.in-Some.list c.args.above.security
    (λ (p : List ℕ). 20 ≤ length p) (relisted (goal.at.raise_by-requires c).In-Some)
    (c.requires.linkable.security_long used) (c.requires.linkable.security_lists used))

pub returns-in-Some-clause-linked : goal.returns-in-Some-clause-linked
returns-in-Some-clause-linked c =
    record {
      listed = c.insert_child.new.cells.bins;
      noted = c.note.new.heap.bins;
      list = c.in-Some.list;
      small = c.note.ensures.small;
      volatile = c.note.ensures.volatile;
      lists = relisted (goal.at.returns-in-Some-clause-linked c).In-Some;
      fields = c.note.ensures.written;
      counted = c.raise_by.ensures.raised;
    }
