use Rattle.std.proofs.Common.{arith}
use Rattle.hive_edit.proofs.ToldLemmas.{still_room}
use Rattle.hive_edit.proofs.telling.raise_both.Goals as goal

pub raise-requires-2-clause-node : goal.raise-requires-2-clause-node
raise-requires-2-clause-node c =
    still_room c.args.heap.now.bins c.raise.new.heap.bins c.args.at c.args.field c.args.first (omega (arith, c.requires.field))
    c.requires.node c.raise.ensures.raised
