use Rattle.std.proofs.Common.{◌≡◌, ◌++◌, ℕ, ◌||◌, length, drop, refl, subst, arith}
use Rattle.std.specs.Prelude.{codes}
use Rattle.hive_model.specs.Tree.{is_item}
use Rattle.hive_model.specs.Edit.{at_first}
use Rattle.failure_effects.specs.Switching.{as_four}
use Rattle.failure_effects.proofs.SwitchLemmas.{rest_of, one_more, all_made}
use Rattle.failure_effects.proofs.switching.off_values.Goals as goal

pub loop-value-preserved : goal.loop-value-preserved
loop-value-preserved c =
    let values = c.args.values.now in
    let here = c.is_first_start-here.result in
    one_more (is_item (codes "Start"))
    as_four values c.loop-value.value-index c.value-item.result c.in_ok-four_where.field-0 c.loop-value.found here
    (c.loop-value.found || here) c.loop-value.made c.push.new.self
    (at_first (is_item (codes "Start")) as_four values)
    c.loop-value-test.true c.value-item.is c.is_first_start-here.ensures c.in_ok-four_where.ensures refl
    c.in_ok-push.ensures.ok c.loop-value.invariant

pub returns : goal.returns
returns c =
    let values = c.args.values.now in
    let whole = at_first (is_item (codes "Start")) as_four values in
    let all : c.loop-value.value-index ≡ length values = omega arith in
    all_made (is_item (codes "Start")) as_four values c.loop-value.made whole c.loop-value.found
    (subst (λ (i : ℕ). c.loop-value.made ++ rest_of c.loop-value.found (is_item (codes "Start")) as_four (drop i values)
    ≡ whole) all c.loop-value.invariant)
