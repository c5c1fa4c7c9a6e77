use Rattle.hive_model.specs.Tree.{trees, items_count}
use Rattle.nt_bytes.specs.Counts.{capped}
use Rattle.text_commands.proofs.CountLemmas.{all_items_count}
use Rattle.text_commands.proofs.counts.+values.Goals as goal

pub items_count-returns-in_default : goal.items_count-returns-in_default
items_count-returns-in_default t c =
    all_items_count c.keys.total (capped (items_count (trees c.args.keys.now)))
    c.keys.rest.now c.in_default.len_below c.keys.invariant.small c.keys.invariant.so_far
