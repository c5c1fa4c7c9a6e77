use Rattle.std.proofs.Common.{sym, ◌∙◌}
use Rattle.hive_cells.specs.Sources.{cells_of}
use Rattle.hive_read.proofs.WeighingLemmas.{celled-one}
use Rattle.hive_read.proofs.weighing.judge_celled.Goals as goal

pub returns : goal.returns
returns c =
    let s = c.in_ok-_bytes.ensures in
    celled-one (cells_of c.args.cells.now)
    c.args.used.now c.use_front.new.used c.args.size c.args.at c.in_ok-_bytes._bytes.now
    (sym c.is_big.ensures ∙ c.if-is_big.false) s.0 s.1
