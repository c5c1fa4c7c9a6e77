use Rattle.std.proofs.Common.{◌≡◌, ◌<◌, ◌-◌, false, length, get_or, ap, ◌∙◌, arith}
use Rattle.std.proofs.lemmas.List.{get_or_read}
use Rattle.start_model.specs.Demand.{member}
use Rattle.dependencies.proofs.WantLemmas.{had_one, counted_after}
use Rattle.dependencies.proofs.wants.Wants.lower.Goals as goal

pub overflow_sub-index_mut : goal.overflow_sub-index_mut
overflow_sub-index_mut c =
    let s = c.self.inside in
    let old = c.self.invariant in
    let want = c.args.want in
    let lt : want < length s.met.items = rw (← c.self.view_is) at c.requires.within in
    let within : want < length s.owners.items = omega (arith, lt, old.len) in
    let unmarked : member s.met.items want ≡ false = rw (← c.self.view_is) at c.requires.unmet in
    let own = get_or_read s.owners.items want c.index-owner.result.now within c.index-owner.ensures 0 in
    let small = old.owned want 0 within in
    let had = c.index_mut-2 in
    let is = get_or_read s.unmet.items c.index-owner.result.now had.result.now (omega (arith, own, small))
    had.ensures.value 0 in
    let here = ap (λ o. get_or s.unmet.items o 0) own in
    omega (
      arith,
      is,
      here,
      old.counted (get_or s.owners.items want 0) small,
      had_one s.owners.items s.met.items want within old.len unmarked,
    )

pub invariant_of-self : goal.invariant_of-self
invariant_of-self c =
    let s = c.self.inside in
    let old = c.self.invariant in
    let want = c.args.want in
    let lt : want < length s.met.items = rw (← c.self.view_is) at c.requires.within in
    let within : want < length s.owners.items = omega (arith, lt, old.len) in
    let unmarked : member s.met.items want ≡ false = rw (← c.self.view_is) at c.requires.unmet in
    let own = get_or_read s.owners.items want c.index-owner.result.now within c.index-owner.ensures 0 in
    let small = old.owned want 0 within in
    let had = c.index_mut-2 in
    let is = get_or_read s.unmet.items c.index-owner.result.now had.result.now (omega (arith, own, small))
    had.ensures.value 0 in
    let here = ap (λ o. get_or s.unmet.items o 0) own in
    rw own (counted_after s.owners.items s.met.items s.unmet.items want (had.result.now - 1) old lt unmarked
    (ap (λ n. n - 1) (is ∙ here)))
