use Rattle.std.proofs.Common.{rules, ◌≡◌, ◌≤◌, ℕ, List, false, length, ap, sym, subst, arith}
use Rattle.std.specs.List.{All}
use Rattle.std.proofs.lemmas.Fn.{always_returns_same}
use Rattle.nt_bytes.specs.Folding.{folds_same}
use Rattle.reg_tree.specs.Order.{name_at, IsOrderOf}
use Rattle.reg_tree.proofs.Halving.{EndsAt, Rising, less, less_first}
use Rattle.reg_tree.proofs.Ordered.{weak, none_in_order, order_pushed}
use Rattle.reg_tree.proofs.value_places.order_with.Goals as goal

pub returns : goal.returns
returns c = λ v named some.
    let items = c.args.items.now in
    let order = c.args.order.items in
    let name = c.args.name.now in
    let at = c.partition_point-at in
    let kept : IsOrderOf items order = c.requires.kept (search rules) in
    let slice = c.as_slice.ensures.value in
    let ends = subst (λ (xs : List ℕ). EndsAt (less (name_at items) name) xs at.result) slice
    (at.ensures.partitioned (less (name_at items) name) (always_returns_same _ _ _ (λ a r f k. search rules))
    (less_first (name_at items) name c.as_slice.result.now
    (subst (λ (xs : List ℕ). Rising (name_at items) xs) (sym slice) (weak items order kept.rises)))) in
    let most : at.result ≤ length order = omega (arith, at.ensures.bound, ap length slice) in
    let none = none_in_order items order name kept c.requires.new in
    rw c.in_ok-insert.ensures.items
    (order_pushed items order v at.result kept most
    (subst (λ (q : List ℕ). EndsAt (less (name_at items) q) order at.result) (sym named) ends)
    (subst (λ (q : List ℕ). All (λ k. folds_same q (name_at items k) ≡ false) order) (sym named) none))
