use Rattle.std.proofs.Common.{◌≡◌, false, replicate, rules, arith}
use Rattle.dependencies.proofs.WantLemmas.{counted_first}
use Rattle.dependencies.proofs.wants.Wants.new.Goals as goal

pub invariant_of-result : goal.invariant_of-result
invariant_of-result c =
    let none : c.in_ok-met.met.items ≡ replicate c.len.result false = search rules in
    counted_first c.args.owners.items c.in_ok-met.met.items c.count_each.new.counts.items c.args.count c.len.result
    (omega (arith, c.args.owners.ok.0, c.len.ensures))
    none (omega (arith, c.count_each.ensures.len, c.in_ok-unmet.ensures.len, c.in_ok-unmet.unmet.ok.0)) c.requires
    (rw c.as_slice.ensures.value at c.count_each.ensures.counted)
