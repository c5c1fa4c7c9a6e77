use Rattle.hive_read.proofs.MarkLemmas.{no-marks}
use Rattle.hive_read.proofs.used.Used.new.Goals as goal

pub returns : goal.returns
returns c = rw (c.new.ensures.items, c.new-2.ensures.items) no-marks
