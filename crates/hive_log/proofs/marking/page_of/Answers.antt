use Rattle.std.proofs.Common.{◌≡◌, ◌+◌, ◌-◌, ◌*◌, take, drop, ap, arith}
use Rattle.hive_log.proofs.marking.page_of.Goals as goal

pub returns : goal.returns
returns c =
    let long : 512 * c.args.first + 4096 - 512 * c.args.first ≡ 4096 = omega arith in
    ap (λ n. take n (drop (512 * c.args.first) c.args.bytes.now)) long
