use Rattle.hive_edit.proofs.StrainedLemmas.{lists_found}
use Rattle.hive_edit.proofs.hive.HiveBytes.list_room.Goals as goal

pub returns-then-size-lt-PAGE-clause-within : goal.returns-then-size-lt-PAGE-clause-within
returns-then-size-lt-PAGE-clause-within c =
    (lists_found c.args.path.now c.args.self.now.tree c.child_count-count.result c.child_count-count.ensures
    c.if-count-eq0.false).page

pub returns-else-size-lt-PAGE-clause-within : goal.returns-else-size-lt-PAGE-clause-within
returns-else-size-lt-PAGE-clause-within c =
    rw c.from.ensures (lists_found c.args.path.now c.args.self.now.tree c.child_count-count.result
    c.child_count-count.ensures c.if-count-eq0.false).least
