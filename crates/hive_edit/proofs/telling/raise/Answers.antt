use Rattle.hive_edit.proofs.ToldLemmas.{written_over}
use Rattle.hive_edit.proofs.telling.raise.Goals as goal

pub returns-clause-raised : goal.returns-clause-raised
returns-clause-raised c =
    written_over c.args.heap.now.bins c.patch.new.self.bins c.args.at c.args.field c.args.number c.number_in-told.result
    c.to_le_bytes.result c.to_le_bytes.ensures c.ranges.number.fits c.number_in-told.ensures c.if-told-number.false
    c.patch.ensures.exact c.patch.ensures.here c.patch.ensures.others c.patch.ensures.long
