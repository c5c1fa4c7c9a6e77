use Rattle.generated_hive.specs.Generated.{group_name, text_bytes}
use Rattle.generated_hive.proofs.CountLemmas.{bytes_more}
use Rattle.generated_hive.proofs.tree.put_groups.Goals as goal

pub loop-k-preserved : goal.loop-k-preserved
loop-k-preserved c = rw (c.in_ok-put_text.ensures, c.group.ensures, c.loop-k.invariant)
    (bytes_more group_name text_bytes c.loop-k.k c.args.out.now)
