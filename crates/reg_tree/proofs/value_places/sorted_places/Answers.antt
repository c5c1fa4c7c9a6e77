use Rattle.std.proofs.Common.{List, ℕ, subst}
use Rattle.std.specs.List.Sorted.{IsPermutation}
use Rattle.reg_tree.proofs.value_places.sorted_places.Goals as goal

pub returns : goal.returns
returns c = subst (λ (xs : List ℕ). IsPermutation xs c.sort_by.new.self.items)
    c.in_ok-order.ensures c.in_ok-sort_by.ensures.permutation
