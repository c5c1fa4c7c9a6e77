use Rattle.std.proofs.Common.{rules}
use Rattle.std.proofs.lemmas.Fn.{always_returns_same}
use Rattle.nt_bytes.specs.Folding.{folded_order}
use Rattle.dependencies.proofs.OrderLemmas.{searched}
use Rattle.dependencies.proofs.order.search.Goals as goal

pub returns-clause-found : goal.returns-clause-found
returns-clause-found c =
    let facts = c.binary_search_by.ensures in
    let by_order = facts.position (λ n. folded_order n c.args.name.now)
    (always_returns_same _ _ _ (λ a r g called. search rules)) in
    (searched c.args.names.now c.args.name.now c.binary_search_by.result c.requires facts.bound by_order).found

pub returns-clause-absent : goal.returns-clause-absent
returns-clause-absent c =
    let facts = c.binary_search_by.ensures in
    let by_order = facts.position (λ n. folded_order n c.args.name.now)
    (always_returns_same _ _ _ (λ a r g called. search rules)) in
    (searched c.args.names.now c.args.name.now c.binary_search_by.result c.requires facts.bound by_order).absent
