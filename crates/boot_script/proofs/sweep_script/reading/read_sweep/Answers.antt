use Rattle.std.proofs.Common.{Ok}
use Rattle.boot_script.proofs.SweepLemmas.{answer_counted, answer_unordered, by_lines}
use Rattle.boot_script.proofs.sweep_script.reading.read_sweep.Goals as goal

pub returns-in-Ok-clause-counts : goal.returns-in-Ok-clause-counts
returns-in-Ok-clause-counts c =
    answer_counted c.args.text.now c.whole.result
    (rw (by_lines c.args.text.now (Ok c.read_lines.new.parts) c.if-text-gt-MAX_LEN.false c.in-Ok.ensures.taken) c.whole.ensures)

pub returns-in-Ok-clause-unordered : goal.returns-in-Ok-clause-unordered
returns-in-Ok-clause-unordered c =
    answer_unordered c.args.text.now c.whole.result
    (rw (by_lines c.args.text.now (Ok c.read_lines.new.parts) c.if-text-gt-MAX_LEN.false c.in-Ok.ensures.taken) c.whole.ensures)
