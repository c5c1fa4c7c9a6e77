use Rattle.std.proofs.Common.{rules, subst, List, ℕ}
use Rattle.std.specs.List.Sorted.{IsPermutation, IsStableBy}
use Rattle.std.proofs.lemmas.Fn.{always_returns_same}
use Rattle.nt_names.specs.name_places.Order.{comes_before}
use Rattle.nt_names.proofs.OrderLemmas.{is_order}
use Rattle.nt_names.proofs.name_places.order.in_order.Goals as goal

pub returns : goal.returns
returns c =
    let facts = c.in_ok-sort_by.ensures in
    let lt = comes_before c.args.names.now in
    let order = is_order c.args.names.now in
    record {
      each_once = subst (λ (xs : List ℕ). IsPermutation xs c.sort_by.new.self.items)
          c.in_ok-order.ensures facts.permutation;
      by_name = facts.sorted lt order (always_returns_same _ _ _ (λ a r f k. search rules));
      by_place = subst (λ (xs : List ℕ). IsStableBy lt xs c.sort_by.new.self.items) c.in_ok-order.ensures
          (facts.stable lt order (always_returns_same _ _ _ (λ a r f k. search rules)));
    }
