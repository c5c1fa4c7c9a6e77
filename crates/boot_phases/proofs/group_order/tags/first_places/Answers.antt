use Rattle.std.proofs.Common.{◌≡◌, ℕ, List, cond, get_or, length, take, Some, sym, ap, ◌∙◌, arith, length-take}
use Rattle.std.proofs.lemmas.List.{take_more}
use Rattle.std.specs.Ordering.{nat_cmp}
use Rattle.std.specs.BTreeMap.{get, is_at}
use Rattle.boot_phases.proofs.FirstLemmas.{place_added, place_kept}
use Rattle.boot_phases.proofs.group_order.tags.first_places.Goals as goal
use Rattle.boot_phases.proofs.group_order.tags.first_places.Goals.{then-not-contains_key+in_ok-insert, else-not-contains_key}

pub loop-place-preserved : goal.loop-place-preserved
loop-place-preserved c =
    let at = c.loop-place in
    let tags : List ℕ = c.args.tags.now in
    let tag : ℕ = get_or tags at.place 0 in
    let so_far : at.place ≡ length (take at.place tags) =
    omega (arith, length-take at.place tags, c.loop-place-test.true) in
    rw (take_more tags at.place 0 c.loop-place-test.true)
    (elim c.if-not-contains_key.branch [
      | then-not-contains_key+in_ok-insert w ↦
          rw w.places-is (place_added at.places _ (take at.place tags) tag at.invariant
          (sym c.contains_key.ensures ∙ w.if-not-contains_key.true)
          (λ q. w.in_ok-insert.ensures.updates.0 q
          ∙ ap (λ n. cond (is_at (nat_cmp tag) q) (Some n) (get nat_cmp at.places q)) so_far))
      | else-not-contains_key w ↦
          rw w.places-is (place_kept at.places (take at.place tags) tag at.invariant
          (sym c.contains_key.ensures ∙ w.if-not-contains_key.false))
    ])
