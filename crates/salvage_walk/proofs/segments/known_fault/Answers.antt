use Rattle.std.proofs.Common.{◌≡◌, ◌++◌, ◌-◌, ◌*◌, Err, List, subst, sym, take, arith}
use Rattle.std.proofs.lemmas.List.{take_all, take_rest}
use Rattle.hive_model.specs.Size.{segment_bytes, segment_part}
use Rattle.salvage_bins.specs.Ground.{ground_of}
use Rattle.salvage_walk.specs.declared.claims.Claim.{Claim}
use Rattle.salvage_walk.specs.Values.{bytes_part}
use Rattle.salvage_walk.proofs.FaultLemmas.{known-at, some-on}
use Rattle.salvage_walk.proofs.segments.known_fault.Goals as goal

pub returns-then-number-len : goal.returns-then-number-len
returns-then-number-len c =
    let hive = ground_of c.args.cells.now in
    let number = c.clear_of_rest-number.result in
    let few = c.clear_of_rest-number.ensures.few in
    some-on c.fault_after.result c.fault_after.ensures (λ f e.
    known-at hive c.args.used.now c.args.lists.now c.in-Some.list.now c.args.size c.args.count c.args.at number c.u32_at-entry.result
    c.in-Some-get.least.now c.min-bound.result c.args.entries.now c.requires.remembered (omega (arith, c.ranges.at.fits)) c.requires.there
    (sym c.in-Some.ensures.value) (sym c.in-Some-get.ensures.value) c.clear_of_rest-number.ensures.clear
    (omega (arith, c.min-bound.ensures, c.min-2.ensures, c.min.ensures))
    (omega (arith, few, c.min-bound.ensures, c.min-2.ensures, c.min.ensures, c.len.ensures))
    (omega (arith, few, c.min-bound.ensures, c.min-2.ensures, c.if-count-eq0.false))
    (omega (arith, few, c.min-bound.ensures)) (rw take_rest at c.u32_at-entry.ensures) f
    (subst (λ (t : List Claim). bytes_part (segment_part (c.args.size - segment_bytes * number)) hive (c.args.used.now ++ t)
    c.u32_at-entry.result ≡ Err f) (sym (take_all number c.in-Some.list.now (omega (arith, c.if-number-len.true, c.len-2.ensures))))
    (subst (λ n. bytes_part n hive (c.args.used.now ++ c.in-Some.list.now) c.u32_at-entry.result ≡ Err f) c.min-then-number-len.ensures e)))

pub returns-else-number-len : goal.returns-else-number-len
returns-else-number-len c =
    let hive = ground_of c.args.cells.now in
    let number = c.clear_of_rest-number.result in
    let few = c.clear_of_rest-number.ensures.few in
    some-on c.lasting_fault.result c.lasting_fault.ensures (λ f e.
    known-at hive c.args.used.now c.args.lists.now c.in-Some.list.now c.args.size c.args.count c.args.at number c.u32_at-entry.result
    c.in-Some-get.least.now c.min-bound.result c.args.entries.now c.requires.remembered (omega (arith, c.ranges.at.fits)) c.requires.there
    (sym c.in-Some.ensures.value) (sym c.in-Some-get.ensures.value) c.clear_of_rest-number.ensures.clear
    (omega (arith, c.min-bound.ensures, c.min-2.ensures, c.min.ensures))
    (omega (arith, few, c.min-bound.ensures, c.min-2.ensures, c.min.ensures, c.len.ensures))
    (omega (arith, few, c.min-bound.ensures, c.min-2.ensures, c.if-count-eq0.false))
    (omega (arith, few, c.min-bound.ensures)) (rw take_rest at c.u32_at-entry.ensures) f
    (subst (λ n. bytes_part n hive (c.args.used.now ++ take number c.in-Some.list.now) c.u32_at-entry.result ≡ Err f) c.min-else-number-len.ensures
    (e (take number c.in-Some.list.now))))
