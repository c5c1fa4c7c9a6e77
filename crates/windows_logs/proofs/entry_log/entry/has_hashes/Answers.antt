use Rattle.std.proofs.Common.{arith, length-take}
use Rattle.windows_logs.proofs.entry_log.entry.has_hashes.Goals as goal

pub slice_bounds-head-end : goal.slice_bounds-head-end
slice_bounds-head-end c = omega (arith, length-take 32 c.args.bytes.now)
