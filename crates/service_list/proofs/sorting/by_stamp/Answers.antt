use Rattle.std.proofs.Common.{rules}
use Rattle.std.proofs.lemmas.Fn.{always_returns_same}
use Rattle.service_list.specs.Sorting.{is_newer}
use Rattle.service_list.proofs.SortLemmas.{sorted_is, newer_order}
use Rattle.service_list.proofs.sorting.by_stamp.Goals as goal

pub returns : goal.returns
returns c =
    let facts = c.in_ok-sort_by.ensures in
    sorted_is is_newer newer_order c.args.entries.items c.sort_by.new.self.items
    (facts.sorted is_newer newer_order (always_returns_same _ _ _ (λ a r f k. search rules)))
    (facts.stable is_newer newer_order (always_returns_same _ _ _ (λ a r f k. search rules)))
