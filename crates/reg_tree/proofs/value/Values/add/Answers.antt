use Rattle.std.proofs.Common.{List, [], ◌∷◌, ◌++◌, sym, subst}
use Rattle.hive_model.specs.Tree.{Item}
use Rattle.reg_tree.specs.Order.{IsOrderOf}
use Rattle.reg_tree.proofs.value.Values.add.Goals as goal

pub invariant_of-self-2 : goal.invariant_of-self-2
invariant_of-self-2 c = λ some.
    rw c.in_ok-push.ensures.items
    (subst (λ (vs : List Item). IsOrderOf (vs ++ c.args.value ∷ []) c.in_ok-order.order.items) c.as_slice.ensures.value
    (c.in_ok-order.ensures c.args.value (sym c.name.ensures) some))
