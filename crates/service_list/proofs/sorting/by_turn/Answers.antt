use Rattle.std.proofs.Common.{rules}
use Rattle.std.proofs.lemmas.Fn.{always_returns_same}
use Rattle.service_list.specs.Sorting.{is_earlier}
use Rattle.service_list.proofs.SortLemmas.{sorted_is, earlier_order}
use Rattle.service_list.proofs.sorting.by_turn.Goals as goal

pub returns : goal.returns
returns c =
    let facts = c.in_ok-sort_by.ensures in
    sorted_is is_earlier earlier_order c.args.entries.items c.sort_by.new.self.items
    (facts.sorted is_earlier earlier_order (always_returns_same _ _ _ (λ a r f k. search rules)))
    (facts.stable is_earlier earlier_order (always_returns_same _ _ _ (λ a r f k. search rules)))
