use Rattle.std.proofs.Common.{◌≡◌, ◌++◌, ℕ, ◌||◌, length, drop, refl, subst, arith}
use Rattle.std.specs.Prelude.{filter, codes}
use Rattle.hive_model.specs.Tree.{Tree, is_named}
use Rattle.hive_model.specs.Edit.{at_first, of_children}
use Rattle.safe_boot.specs.Listed.{stays}
use Rattle.safe_boot.proofs.ReduceLemmas.{rest_of, one_more, all_made}
use Rattle.safe_boot.proofs.reducing.reduced_children.Goals as goal

pub loop-key-preserved : goal.loop-key-preserved
loop-key-preserved c =
    let change : Tree → Tree = of_children (filter (stays c.args.images c.args.names.now)) in
    let keys = c.args.keys.now in
    let reduces = c.reduces_at-reduces.result in
    one_more (is_named (codes "Services"))
    change keys c.loop-key.key-index c.key-item.result c.in_ok-reduced_where.field-0 c.loop-key.found reduces
    (c.loop-key.found || reduces) c.loop-key.made c.push.new.self
    (at_first (is_named (codes "Services")) change keys)
    c.loop-key-test.true c.key-item.is c.reduces_at-reduces.ensures c.in_ok-reduced_where.ensures refl
    c.in_ok-push.ensures.ok c.loop-key.invariant

pub returns : goal.returns
returns c =
    let change : Tree → Tree = of_children (filter (stays c.args.images c.args.names.now)) in
    let keys = c.args.keys.now in
    let whole = at_first (is_named (codes "Services")) change keys in
    let all : c.loop-key.key-index ≡ length keys = omega arith in
    all_made (is_named (codes "Services")) change keys c.loop-key.made whole c.loop-key.found
    (subst (λ (i : ℕ). c.loop-key.made ++ rest_of c.loop-key.found (is_named (codes "Services")) change (drop i keys)
    ≡ whole) all c.loop-key.invariant)
