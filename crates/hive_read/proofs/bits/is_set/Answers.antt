use Rattle.std.proofs.Common.{sym}
use Rattle.hive_read.specs.Marks.{has_bit}
use Rattle.hive_read.proofs.MarkLemmas.{bit-past}
use Rattle.hive_read.proofs.bits.is_set.Goals as goal

pub returns-then-slot-words : goal.returns-then-slot-words
unfolding has_bit
returns-then-slot-words c = c.bit.ensures

pub returns-else-slot-words : goal.returns-else-slot-words
returns-else-slot-words c = sym (bit-past c.args.words.now c.args.slot c.if-slot-words.false)
