use Rattle.std.proofs.Common.{ℕ, ◌^◌, ◌<◌, List, length, subst, ap, arith}
use Rattle.wait_cycles.proofs.InverseLemmas.{if_ok}
use Rattle.service_check.specs.declared.stage.Staged.{Staged}
use Rattle.service_check.specs.Needs.{groups_upto}
use Rattle.service_check.specs.Grouped.{AreGrouped}
use Rattle.service_check.proofs.waits.group_rows.Goals as goal

pub returns-clause-grouped : goal.returns-clause-grouped
returns-clause-grouped c =
    let stage = c.args.stage in
    if_ok c.member_rows.result
    (λ ways. AreGrouped c.rows.result.now stage c.groups.result.now (length c.rows.result.now) ways.items)
    (λ ways. AreGrouped c.args.table.now stage (groups_upto stage c.args.table.now) (length c.args.table.now) ways.items)
    (λ ways is. subst (λ (rows : List Staged). AreGrouped rows stage (groups_upto stage c.args.table.now) (length rows) ways.items)
    c.rows.ensures
    (subst (λ (groups : List (List ℕ)). AreGrouped c.rows.result.now stage groups (length c.rows.result.now) ways.items)
    c.groups.ensures is))
    c.member_rows.ensures

pub returns-clause-few : goal.returns-clause-few
returns-clause-few c =
    let stage = c.args.stage in
    if_ok c.member_rows.result
    (λ ways. AreGrouped c.rows.result.now stage c.groups.result.now (length c.rows.result.now) ways.items)
    (λ ways. length ways.items < 2 ^ 32)
    (λ ways is. omega (arith, is.len, ap length c.groups.ensures, c.count_groups-count.ensures.len, c.count_groups-count.ensures.few))
    c.member_rows.ensures
