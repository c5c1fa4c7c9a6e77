use Rattle.std.proofs.Common.{length, arith}
use Rattle.std.proofs.lemmas.Slice.{between_to_end}
use Rattle.windows_logs.proofs.dirt_log.reading.from_byte.Goals as goal

pub returns : goal.returns
returns c = between_to_end c.args.log.now c.args.at (length c.args.log.now) (omega arith)
