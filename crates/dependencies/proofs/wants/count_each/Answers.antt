use Rattle.std.proofs.Common.{nat_eq, get_or, take, arith}
use Rattle.std.proofs.lemmas.List.{get_or_read, length-take-le}
use Rattle.std.proofs.lemmas.List.Sums.{count_by-le-length}
use Rattle.dependencies.proofs.wants.count_each.Goals as goal

pub overflow_add-index_mut : goal.overflow_add-index_mut
overflow_add-index_mut c =
    let i = c.loop-owner.owner-index in
    let owners = c.args.owners.now in
    let own = get_or owners i 0 in
    let counts = c.loop-owner.counts.items in
    let small = c.requires.owned i 0 c.loop-owner-test.true in
    let is = get_or_read counts own c.index_mut.result.now (omega (arith, small, c.loop-owner.invariant.len))
    c.index_mut.ensures.value 0 in
    omega (
      arith,
      is,
      c.loop-owner.invariant.counted own,
      count_by-le-length (λ o. nat_eq o own) (take i owners),
      length-take-le i owners (omega arith),
    )
