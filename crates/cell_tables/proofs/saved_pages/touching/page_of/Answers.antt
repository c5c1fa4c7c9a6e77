use Rattle.std.proofs.Common.{◌≡◌, ◌+◌, ◌-◌, ◌*◌, take, drop, ap, arith}
use Rattle.cell_tables.proofs.saved_pages.touching.page_of.Goals as goal

pub returns-clause-value : goal.returns-clause-value
returns-clause-value c =
    let long : 4096 * c.args.k + 4096 - 4096 * c.args.k ≡ 4096 = omega arith in
    ap (λ n. take n (drop (4096 * c.args.k) c.args.bytes.now)) long
