use Rattle.hive_edit.proofs.StrainedLemmas.{values_found}
use Rattle.hive_edit.proofs.hive.HiveBytes.value_room.Goals as goal

pub returns-then-size-lt-PAGE-clause-within : goal.returns-then-size-lt-PAGE-clause-within
returns-then-size-lt-PAGE-clause-within c =
    (values_found c.args.path.now c.args.self.now.tree c.value_count-count.result c.value_count-count.ensures
    c.if-count-eq0.false).page

pub returns-else-size-lt-PAGE-clause-within : goal.returns-else-size-lt-PAGE-clause-within
returns-else-size-lt-PAGE-clause-within c =
    rw c.from-size.ensures (values_found c.args.path.now c.args.self.now.tree c.value_count-count.result
    c.value_count-count.ensures c.if-count-eq0.false).least
