use Rattle.std.proofs.Common.{◌≡◌, ◌++◌, ℕ, ◌||◌, length, drop, refl, subst, arith}
use Rattle.hive_model.specs.Tree.{is_named}
use Rattle.hive_model.specs.Edit.{at_first}
use Rattle.failure_effects.specs.Switching.{off_key}
use Rattle.failure_effects.proofs.SwitchLemmas.{rest_of, one_more, all_made}
use Rattle.failure_effects.proofs.switching.off_services.Goals as goal

pub loop-key-preserved : goal.loop-key-preserved
loop-key-preserved c =
    let keys = c.args.keys.now in
    let here = c.is_first-here.result in
    one_more (is_named c.args.name.now)
    off_key keys c.loop-key.key-index c.key-item.result c.in_ok-off_where.field-0 c.loop-key.found here
    (c.loop-key.found || here) c.loop-key.made c.push.new.self
    (at_first (is_named c.args.name.now) off_key keys)
    c.loop-key-test.true c.key-item.is c.is_first-here.ensures c.in_ok-off_where.ensures refl
    c.in_ok-push.ensures.ok c.loop-key.invariant

pub returns : goal.returns
returns c =
    let keys = c.args.keys.now in
    let whole = at_first (is_named c.args.name.now) off_key keys in
    let all : c.loop-key.key-index ≡ length keys = omega arith in
    all_made (is_named c.args.name.now) off_key keys c.loop-key.made whole c.loop-key.found
    (subst (λ (i : ℕ). c.loop-key.made ++ rest_of c.loop-key.found (is_named c.args.name.now) off_key (drop i keys)
    ≡ whole) all c.loop-key.invariant)
