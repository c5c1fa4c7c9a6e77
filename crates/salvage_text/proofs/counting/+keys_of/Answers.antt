use Rattle.std.proofs.Common.{◌≡◌, List, ap, arith}
use Rattle.hive_model.specs.Tree.{Tree, trees, keys_count}
use Rattle.hive_model.specs.Codes.{weights}
use Rattle.salvage_text.proofs.CountLemmas.{keys_parted, weight_parted, empty}
use Rattle.salvage_text.proofs.counting.+keys_of.Goals as goal

pub keys_of-keys_of_all-requires : goal.keys_of-keys_of_all-requires
keys_of-keys_of_all-requires t c = (omega (arith, weight_parted c.args.tree.now, ap weights c.subkeys.ensures), tt)

pub keys_of-returns : goal.keys_of-returns
keys_of-returns t c =
    omega (
      arith,
      c.saturating_add.ensures,
      c.keys_of_all.ensures,
      ap (λ (ts : List Tree). keys_count (trees ts)) c.subkeys.ensures,
      keys_parted c.args.tree.now,
    )

pub keys_of_all-returns-in_default : goal.keys_of_all-returns-in_default
keys_of_all-returns-in_default t c =
    let zero : keys_count (trees c.keys.rest.now) ≡ 0 = ap (λ (ts : List Tree). keys_count (trees ts)) (empty c.keys.rest.now c.in_default.len_below) in
    omega (arith, c.keys.invariant.found, c.keys.invariant.small, zero)
