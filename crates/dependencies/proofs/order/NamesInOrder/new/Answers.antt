use Rattle.std.proofs.Common.{rules}
use Rattle.std.proofs.lemmas.Fn.{always_returns_same}
use Rattle.std.specs.Ordering.{is_lt}
use Rattle.nt_bytes.specs.Folding.{folded_order}
use Rattle.dependencies.proofs.OrderLemmas.{by_names, sorted_same}
use Rattle.dependencies.proofs.order.NamesInOrder.new.Goals as goal

pub invariant_of-result : goal.invariant_of-result
invariant_of-result c =
    c.in_ok-sort_by.ensures.sorted (λ a b. is_lt (folded_order a b)) by_names
    (always_returns_same _ _ _ (λ a r f k. search rules))

pub returns : goal.returns
returns c = λ q. sorted_same _ _ q c.in_ok-sort_by.ensures.permutation
