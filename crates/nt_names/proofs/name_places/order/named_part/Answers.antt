use Rattle.std.proofs.Common.{rules}
use Rattle.std.specs.Ordering.{is_lt, is_le}
use Rattle.std.proofs.lemmas.Fn.{always_returns_same}
use Rattle.nt_names.proofs.OrderLemmas.{compared, searched}
use Rattle.nt_names.proofs.name_places.order.named_part.Goals as goal

pub slice_bounds-result-count : goal.slice_bounds-result-count
slice_bounds-result-count c =
    let names = c.args.names.now in
    let name = c.args.name.now in
    let low = c.partition_point-low in
    let high = c.partition_point-high in
    (searched names c.args.order.now name low.result high.result c.requires low.ensures.bound high.ensures.bound
    (low.ensures.partitioned (λ k. is_lt (compared names name k)) (always_returns_same _ _ _ (λ a r f k. search rules)))
    (high.ensures.partitioned (λ k. is_le (compared names name k))
    (always_returns_same _ _ _ (λ a r f k. search rules)))).rises

pub slice_bounds-result-start : goal.slice_bounds-result-start
slice_bounds-result-start c = search (rules, slice_bounds-result-count c)

pub returns : goal.returns
returns c =
    let names = c.args.names.now in
    let name = c.args.name.now in
    let low = c.partition_point-low in
    let high = c.partition_point-high in
    (searched names c.args.order.now name low.result high.result c.requires low.ensures.bound high.ensures.bound
    (low.ensures.partitioned (λ k. is_lt (compared names name k)) (always_returns_same _ _ _ (λ a r f k. search rules)))
    (high.ensures.partitioned (λ k. is_le (compared names name k))
    (always_returns_same _ _ _ (λ a r f k. search rules)))).named
