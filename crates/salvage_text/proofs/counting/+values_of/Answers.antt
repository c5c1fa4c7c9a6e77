use Rattle.std.proofs.Common.{◌≡◌, List, length, ap, arith}
use Rattle.hive_model.specs.Tree.{Item, Tree, trees, items_count}
use Rattle.hive_model.specs.Codes.{weights}
use Rattle.salvage_text.proofs.CountLemmas.{items_parted, weight_parted, empty}
use Rattle.salvage_text.proofs.counting.+values_of.Goals as goal

pub values_of-values_of_all-requires : goal.values_of-values_of_all-requires
values_of-values_of_all-requires t c = (omega (arith, weight_parted c.args.tree.now, ap weights c.subkeys.ensures), tt)

pub values_of-returns : goal.values_of-returns
values_of-returns t c =
    omega (
      arith,
      c.saturating_add.ensures,
      c.values_of_all.ensures,
      ap (λ (vs : List Item). length vs) c.items.ensures,
      ap (λ (ts : List Tree). items_count (trees ts)) c.subkeys.ensures,
      items_parted c.args.tree.now,
    )

pub values_of_all-returns-in_default : goal.values_of_all-returns-in_default
values_of_all-returns-in_default t c =
    let zero : items_count (trees c.keys.rest.now) ≡ 0 = ap (λ (ts : List Tree). items_count (trees ts)) (empty c.keys.rest.now c.in_default.len_below) in
    omega (arith, c.keys.invariant.found, c.keys.invariant.small, zero)
