use Rattle.std.proofs.Common.{◌≡◌, ◌+◌, ◌-◌, ◌*◌, take, drop, ap, arith}
use Rattle.hive_model.specs.Recovery.{sector}
use Rattle.windows_logs.proofs.dirt_log.pages.sector_of.Goals as goal

pub returns-clause-value : goal.returns-clause-value
unfolding sector
returns-clause-value c =
    let long : 512 * c.args.i + 512 - 512 * c.args.i ≡ 512 = omega arith in
    ap (λ n. take n (drop (512 * c.args.i) c.args.bytes.now)) long
