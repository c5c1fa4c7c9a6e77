use Rattle.hive_model.specs.Tree.{trees, keys_count}
use Rattle.nt_bytes.specs.Counts.{capped}
use Rattle.tree_diff.proofs.CountLemmas.{all_keys_count}
use Rattle.tree_diff.proofs.counting.+keys.Goals as goal

pub keys_count-returns-in_default : goal.keys_count-returns-in_default
keys_count-returns-in_default t c =
    all_keys_count c.keys.total (capped (keys_count (trees c.args.keys.now)))
    c.keys.rest.now c.in_default.len_below c.keys.invariant.small c.keys.invariant.so_far
