use Rattle.hive_edit.proofs.NewRunLemmas.{some_listed}
use Rattle.hive_edit.proofs.new_value.list_bytes.Goals as goal

pub returns-clause-long : goal.returns-clause-long
returns-clause-long c =
    (some_listed c.args.heap.now.bins c.args.list c.args.count c.in-Ok.bytes.now c.requires.0 c.if-count-eq0.false
    c.in-Ok.ensures.held c.requires.1).0

pub returns-clause-offsets : goal.returns-clause-offsets
returns-clause-offsets c = λ offsets listed.
    (some_listed c.args.heap.now.bins c.args.list c.args.count c.in-Ok.bytes.now offsets c.if-count-eq0.false
    c.in-Ok.ensures.held listed).1
