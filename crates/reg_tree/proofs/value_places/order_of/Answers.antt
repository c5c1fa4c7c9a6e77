use Rattle.std.proofs.Common.{rules, ◌≡◌, ℕ, List, true, sym, subst}
use Rattle.std.specs.Ordering.{is_lt}
use Rattle.std.specs.List.{IsAllAdjacentAnswer}
use Rattle.std.proofs.lemmas.Fn.{always_returns_same}
use Rattle.nt_bytes.specs.Folding.{folded_order}
use Rattle.reg_tree.specs.Order.{name_at}
use Rattle.reg_tree.proofs.Ordered.{sorted_order, ascends_from_neighbours}
use Rattle.reg_tree.proofs.value_places.order_of.Goals as goal

pub returns-then-is_sorted_by : goal.returns-then-is_sorted_by
returns-then-is_sorted_by c = λ some.
    let items = c.args.items.now in
    let rises = λ (a b : ℕ). is_lt (folded_order (name_at items a) (name_at items b)) in
    let sorted = c.is_sorted_by.ensures.cases rises (always_returns_same _ _ _ (λ a r f k. search rules)) in
    let order = c.in_ok-order.order.items in
    let all : IsAllAdjacentAnswer (λ a b r. r ≡ rises a b) order true =
    subst (λ (xs : List ℕ). IsAllAdjacentAnswer (λ a b r. r ≡ rises a b) xs true) c.as_slice.ensures.value
    (rw c.if-is_sorted_by.true at sorted) in
    sorted_order items order c.in_ok-order.ensures (ascends_from_neighbours items order (λ k d lt. sym (all k d lt)))
