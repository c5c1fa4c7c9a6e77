use Rattle.std.proofs.Common.{◌+◌, length, arith}
use Rattle.std.proofs.lemmas.List.FromFn.{length-range_with_len}
use Rattle.sweep_text.proofs.sweep_text.report.commit_count.Goals as goal

pub returns-clause-count : goal.returns-clause-count
returns-clause-count c =
    omega (arith, length-range_with_len 0 (1 + c.args.bitmap + length c.args.sectors.now))
