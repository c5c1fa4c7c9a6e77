use Rattle.std.proofs.Common.{rules, ℕ, List, ap, sym, ◌∙◌, arith}
use Rattle.std.proofs.lemmas.Fn.{always_returns_same}
use Rattle.nt_bytes.specs.Folding.{folds_same}
use Rattle.reg_tree.specs.Order.{name_at}
use Rattle.reg_tree.proofs.Halving.{less, less_first, halved_none}
use Rattle.reg_tree.proofs.Ordered.{weak, found_in_order, absent_in_order}
use Rattle.reg_tree.proofs.value_places.ordered_place.Goals as goal

pub returns-then-same_folded : goal.returns-then-same_folded
returns-then-same_folded c =
    sym
    (found_in_order c.args.items.now c.args.order.now c.args.name.now c.partition_point-low.result c.in-Some.k.now
    c.requires c.in-Some.ensures.lookup.3
    (sym (ap (λ (n : List ℕ). folds_same c.args.name.now n) c.name_at.ensures) ∙ sym c.same_folded.ensures
    ∙ c.if-same_folded.true))

pub returns-else-same_folded : goal.returns-else-same_folded
returns-else-same_folded c =
    let items = c.args.items.now in
    let order = c.args.order.now in
    let name = c.args.name.now in
    let low = c.partition_point-low in
    let ends = low.ensures.partitioned (less (name_at items) name) (always_returns_same _ _ _ (λ a r f k. search rules))
    (less_first (name_at items) name order (weak items order c.requires.rises)) in
    let other = sym (ap (λ (n : List ℕ). folds_same name n) c.name_at.ensures) ∙ sym c.same_folded.ensures
    ∙ c.if-same_folded.false in
    sym
    (absent_in_order items order name c.requires
    (halved_none (name_at items) name order low.result (weak items order c.requires.rises) ends low.ensures.bound
    (λ within d. sym (ap (λ (k : ℕ). folds_same name (name_at items k)) (c.in-Some.ensures.lookup.3.1 d)) ∙ other)))

pub returns-in-None : goal.returns-in-None
returns-in-None c =
    let items = c.args.items.now in
    let order = c.args.order.now in
    let name = c.args.name.now in
    let low = c.partition_point-low in
    let ends = low.ensures.partitioned (less (name_at items) name) (always_returns_same _ _ _ (λ a r f k. search rules))
    (less_first (name_at items) name order (weak items order c.requires.rises)) in
    sym
    (absent_in_order items order name c.requires
    (halved_none (name_at items) name order low.result (weak items order c.requires.rises) ends low.ensures.bound
    (λ within d. absurd (omega (arith, within, c.in-None.ensures.lookup.3)))))
